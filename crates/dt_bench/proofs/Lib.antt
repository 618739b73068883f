mod DotLawful
