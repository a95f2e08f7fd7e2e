pub mod AddressFields
pub mod BitLemmas
pub mod ClaimGroupLemmas
pub mod ClaimLemmas
pub mod ClaimSetLemmas
pub mod MeetLemmas
