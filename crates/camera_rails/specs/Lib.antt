pub mod CameraRails
