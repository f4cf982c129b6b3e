mod Members
mod Within
mod Apart
