pub mod SubmitReport
