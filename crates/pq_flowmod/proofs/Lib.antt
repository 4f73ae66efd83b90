pub mod ActionsRead
pub mod BucketSteps
pub mod FlowLaws
pub mod Leading
pub mod OneMessage
pub mod Parts
pub mod RuleLaws
