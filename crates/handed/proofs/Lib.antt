mod Part
