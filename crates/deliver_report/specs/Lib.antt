pub mod DeliverReport
