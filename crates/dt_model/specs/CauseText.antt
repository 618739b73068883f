-- The texts of causes.
use Rattle.std.specs.Prelude.{ℕ, List, [], ◌∷◌, ◌++◌, codes}
use Rattle.std.specs.Fmt.{decimal}
use Rattle.dt_model.specs.declared.cause.Cause.{Cause}
use Rattle.dt_model.specs.declared.cause.Cause.TheVariants as cause

-- the name of a cause
abbrev pub cause_name : Cause → List ℕ
cause_name cause.LineTooLong = codes "LineTooLong"
cause_name (cause.BadByte _) = codes "BadByte"
cause_name cause.UnknownWord = codes "UnknownWord"
cause_name cause.OutOfPlace = codes "OutOfPlace"
cause_name cause.Syntax = codes "Syntax"
cause_name cause.BadNumber = codes "BadNumber"
cause_name cause.Unfinished = codes "Unfinished"
cause_name cause.Version = codes "Version"
cause_name cause.BadDim = codes "BadDim"
cause_name (cause.NameTaken _) = codes "NameTaken"
cause_name cause.TooManyTensors = codes "TooManyTensors"
cause_name cause.BadShape = codes "BadShape"
cause_name cause.BadFormat = codes "BadFormat"
cause_name cause.TooManyStored = codes "TooManyStored"
cause_name (cause.UnknownTensor _) = codes "UnknownTensor"
cause_name (cause.Twice _) = codes "Twice"
cause_name (cause.WrongOrder _) = codes "WrongOrder"
cause_name (cause.NameTwice _) = codes "NameTwice"
cause_name cause.WrongDims = codes "WrongDims"
cause_name cause.NzMixed = codes "NzMixed"
cause_name (cause.UnknownName _) = codes "UnknownName"
cause_name (cause.NameTwiceInLevel _) = codes "NameTwiceInLevel"
cause_name (cause.ConstOut _) = codes "ConstOut"
cause_name (cause.NotDense _) = codes "NotDense"
cause_name cause.WrongCount = codes "WrongCount"
cause_name (cause.OutOfShape _) = codes "OutOfShape"
cause_name (cause.Repeated _) = codes "Repeated"
cause_name cause.BadName = codes "BadName"
cause_name (cause.Missing _) = codes "Missing"
cause_name (cause.FileTooLong _) = codes "FileTooLong"
cause_name (cause.BadRow _) = codes "BadRow"
cause_name cause.TooManyStatements = codes "TooManyStatements"
cause_name (cause.LhsRepeats _) = codes "LhsRepeats"
cause_name (cause.OutputRead _) = codes "OutputRead"
cause_name (cause.OutputFormat _) = codes "OutputFormat"
cause_name (cause.ExtentClash _) = codes "ExtentClash"
cause_name (cause.UnevenReduction _) = codes "UnevenReduction"
cause_name cause.TooManyTerms = codes "TooManyTerms"
cause_name cause.TooManyLoops = codes "TooManyLoops"
cause_name (cause.UnknownLoop _) = codes "UnknownLoop"
cause_name (cause.Distributed _) = codes "Distributed"
cause_name (cause.Communicated _) = codes "Communicated"
cause_name (cause.Fixed _) = codes "Fixed"
cause_name cause.NotOneChain = codes "NotOneChain"
cause_name cause.NotAdjacent = codes "NotAdjacent"
cause_name cause.TooLarge = codes "TooLarge"
cause_name (cause.NotOuter _) = codes "NotOuter"
cause_name (cause.NotOutermost _) = codes "NotOutermost"
cause_name (cause.WrongExtent _ _ _) = codes "WrongExtent"
cause_name (cause.NotBelowTask _) = codes "NotBelowTask"
cause_name (cause.BelowPre _) = codes "BelowPre"
cause_name cause.NotOneTerm = codes "NotOneTerm"
cause_name cause.BadFactors = codes "BadFactors"
cause_name cause.BadLoops = codes "BadLoops"
cause_name (cause.LhsDepends _) = codes "LhsDepends"
cause_name (cause.Entangled _) = codes "Entangled"
cause_name (cause.NotEveryTerm _) = codes "NotEveryTerm"
cause_name (cause.RepeatedVariable _) = codes "RepeatedVariable"
cause_name (cause.Derived _) = codes "Derived"
cause_name (cause.NotInnermost _) = codes "NotInnermost"
cause_name cause.WrongFactorCount = codes "WrongFactorCount"
cause_name cause.UnknownKernel = codes "UnknownKernel"

-- an argument, after a blank
abbrev pub argument : List ℕ → List ℕ
argument text = 32 ∷ text

-- the arguments of a cause in order: names as they are, numbers in decimal
abbrev pub cause_arguments : Cause → List ℕ
cause_arguments cause.LineTooLong = []
cause_arguments (cause.BadByte n) = argument (decimal n)
cause_arguments cause.UnknownWord = []
cause_arguments cause.OutOfPlace = []
cause_arguments cause.Syntax = []
cause_arguments cause.BadNumber = []
cause_arguments cause.Unfinished = []
cause_arguments cause.Version = []
cause_arguments cause.BadDim = []
cause_arguments (cause.NameTaken name) = argument name
cause_arguments cause.TooManyTensors = []
cause_arguments cause.BadShape = []
cause_arguments cause.BadFormat = []
cause_arguments cause.TooManyStored = []
cause_arguments (cause.UnknownTensor name) = argument name
cause_arguments (cause.Twice name) = argument name
cause_arguments (cause.WrongOrder name) = argument name
cause_arguments (cause.NameTwice name) = argument name
cause_arguments cause.WrongDims = []
cause_arguments cause.NzMixed = []
cause_arguments (cause.UnknownName name) = argument name
cause_arguments (cause.NameTwiceInLevel name) = argument name
cause_arguments (cause.ConstOut name) = argument name
cause_arguments (cause.NotDense name) = argument name
cause_arguments cause.WrongCount = []
cause_arguments (cause.OutOfShape n) = argument (decimal n)
cause_arguments (cause.Repeated n) = argument (decimal n)
cause_arguments cause.BadName = []
cause_arguments (cause.Missing name) = argument name
cause_arguments (cause.FileTooLong name) = argument name
cause_arguments (cause.BadRow n) = argument (decimal n)
cause_arguments cause.TooManyStatements = []
cause_arguments (cause.LhsRepeats name) = argument name
cause_arguments (cause.OutputRead name) = argument name
cause_arguments (cause.OutputFormat name) = argument name
cause_arguments (cause.ExtentClash name) = argument name
cause_arguments (cause.UnevenReduction name) = argument name
cause_arguments cause.TooManyTerms = []
cause_arguments cause.TooManyLoops = []
cause_arguments (cause.UnknownLoop name) = argument name
cause_arguments (cause.Distributed name) = argument name
cause_arguments (cause.Communicated name) = argument name
cause_arguments (cause.Fixed name) = argument name
cause_arguments cause.NotOneChain = []
cause_arguments cause.NotAdjacent = []
cause_arguments cause.TooLarge = []
cause_arguments (cause.NotOuter name) = argument name
cause_arguments (cause.NotOutermost name) = argument name
cause_arguments (cause.WrongExtent name extent dimension) = argument name ++ argument (decimal extent) ++ argument (decimal dimension)
cause_arguments (cause.NotBelowTask name) = argument name
cause_arguments (cause.BelowPre name) = argument name
cause_arguments cause.NotOneTerm = []
cause_arguments cause.BadFactors = []
cause_arguments cause.BadLoops = []
cause_arguments (cause.LhsDepends name) = argument name
cause_arguments (cause.Entangled name) = argument name
cause_arguments (cause.NotEveryTerm name) = argument name
cause_arguments (cause.RepeatedVariable name) = argument name
cause_arguments (cause.Derived name) = argument name
cause_arguments (cause.NotInnermost name) = argument name
cause_arguments cause.WrongFactorCount = []
cause_arguments cause.UnknownKernel = []

-- a cause and its arguments
abbrev pub cause_text : Cause → List ℕ
cause_text c = cause_name c ++ cause_arguments c
