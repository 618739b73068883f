pub mod RowSchedule
