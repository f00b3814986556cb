-- Laws of the definitions in specs/, and the theorems. The layers above cite these, and not the definitions' text.
-- Tests, logs, and numbers in lists:
pub mod TestLaws
pub mod CauseLaws
pub mod LogLaws
pub mod PartLaws
pub mod NumberLaws
pub mod ListedLaws
-- A message is read back from its writing, and written back from its reading; worked examples:
pub mod WrittenFields
pub mod Acceptance
pub mod Codec
pub mod RefusalLaws
pub mod ParsedLaws
pub mod GoodLogs
pub mod Examples
-- What the public functions promise, inside their limits:
pub mod Inside
-- What the proofs of functions cite:
pub mod LoopLaws
pub mod ReaderLaws
pub mod WriterLaws
pub mod StoreLaws
