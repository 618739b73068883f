pub mod OrderCauses
pub mod PlanCauses
pub mod Refusals
