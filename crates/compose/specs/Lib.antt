pub mod Frames
pub mod Framing
pub mod Given
pub mod Search
pub mod States
pub mod Steps
