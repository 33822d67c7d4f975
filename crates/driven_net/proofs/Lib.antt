mod Known
mod Following
mod Counting
mod Ends
mod Opening
