pub mod Band
pub mod Controls
