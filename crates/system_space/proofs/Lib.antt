mod Spacing
