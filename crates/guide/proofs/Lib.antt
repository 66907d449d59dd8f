mod Batches
mod Last
mod People
mod RoundTrips
mod Rows
mod Streaming
mod Sums
