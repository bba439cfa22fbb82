pub mod Heard
pub mod LearnerRule
pub mod Learner
pub mod Stands
