mod Keyed
mod Records
