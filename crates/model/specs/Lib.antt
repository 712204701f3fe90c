-- What a reader must believe of the board: its rules, the reference model, demand 3, and the numbers of reports.
pub mod Reply
pub mod Totals
pub mod Report
pub mod Board
pub mod Reference
pub mod Calls
pub mod Demand
pub mod ReportNumbers
pub mod Claims
