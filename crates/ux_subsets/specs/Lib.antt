pub mod Paths
pub mod Machines
pub mod Rows
pub mod Departures
pub mod Building
pub mod Agenda
pub mod Turning
