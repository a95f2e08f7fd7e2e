pub mod ItemRows
pub mod RangePrinting
pub mod PresentPrinting
pub mod PrintCalls
