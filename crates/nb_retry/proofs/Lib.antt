pub mod FiringLemmas
pub mod PlanLemmas
