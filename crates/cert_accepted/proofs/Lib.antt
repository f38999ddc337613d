pub mod Accepting
pub mod StandingDepth
pub mod StandingStart
pub mod FrameUnsent
pub mod Crossing
pub mod Looking
