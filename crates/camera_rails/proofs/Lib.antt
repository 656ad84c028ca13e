pub mod CameraCases
pub mod CameraLabels
pub mod CameraRanges
