pub mod Start
pub mod Growth
pub mod Claims
pub mod Rules
