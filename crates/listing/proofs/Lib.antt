mod Fronts
mod Lettering
mod Lining
