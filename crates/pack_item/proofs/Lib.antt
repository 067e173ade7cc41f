mod Glances
