mod Extending
mod Valuing
mod Acting
mod Running
mod Agreeing
mod PlainRuns
