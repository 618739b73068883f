pub mod StmtSchedules
