mod Amounts
mod Asking
mod CommandLine
mod KindsOfWords
mod Optional
mod Rows
mod Works
