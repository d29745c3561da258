mod Gathering
mod Laws
mod Departing
