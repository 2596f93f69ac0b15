mod PlaceLaws
pub mod ReportStatuses
