pub mod HearingOctets
pub mod SenderPushing
pub mod HearingCases
pub mod Hearings
pub mod Flows
pub mod Faults
pub mod LinesSends
pub mod PacketBitwise
pub mod StepsTrying
pub mod LinesBegun
pub mod StatesWhole
pub mod UnfinishedKeeping
mod PagesKept
