pub mod Faults
pub mod StepCounts
pub mod Words
pub mod Contract
pub mod Cells
pub mod Statuses
pub mod Room
pub mod Ready
