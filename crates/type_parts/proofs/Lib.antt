mod Known
mod Typed
mod PartsLaw
mod TwoMembers
mod TwiceLaw
