pub mod RoundTrips
mod SameBatches
