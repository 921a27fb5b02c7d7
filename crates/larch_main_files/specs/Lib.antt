pub mod Answer
pub mod Check
pub mod Complete
pub mod Completion
pub mod Derive
pub mod Examples
pub mod Gather
pub mod Laws
pub mod Look
pub mod Migrate
pub mod Model
pub mod Obligations
pub mod Questions
pub mod Replay
pub mod Report
pub mod Theory
pub mod Trim
pub mod Turns
pub mod Verify
-- passed on to crates above, which then needn't list the crates that these are of
pub use Rattle.larch_models_answer.specs.Failing as ModelsAnswerFailing
pub use Rattle.larch_session_meaning.specs.Files as SessionMeaningFiles
pub use Rattle.larch_session_meaning.specs.Redone as SessionMeaningRedone
