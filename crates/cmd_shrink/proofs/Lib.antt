mod Left
mod Working
mod Completing
mod Headline
