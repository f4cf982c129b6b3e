mod Least
mod Laid
mod Refused
