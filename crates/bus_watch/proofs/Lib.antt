pub mod CallLaws
pub mod HonestLaws
pub mod MadeLaws
pub mod PathLaws
pub mod PreparedLaws
pub mod Replies
pub mod TiedLaws
