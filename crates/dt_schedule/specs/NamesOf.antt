-- Loops and tensors by their names.
use Rattle.std.specs.Prelude.{ℕ, List, [], ◌∷◌, length, nat_le, position, Result, Ok, Err}
use Rattle.std.specs.Str.{bytes_eq}
use Rattle.dt_text.specs.Names.{is_name}
use Rattle.dt_nest.specs.Tree.{has_loop}
use Rattle.dt_nest.specs.Questions.{accesses_tensor}
use Rattle.dt_model.specs.declared.cause.Cause.{Cause}
use Rattle.dt_model.specs.declared.cause.Cause.TheVariants as cause
use Rattle.dt_model.specs.Steps.{◌>>=◌, need, found}
use Rattle.dt_nest.specs.Schedule.{Schedule}

-- the number of the loop with this name, where it is a loop of the nest now
unfoldable pub loop_of : Schedule → List ℕ → Result ℕ Cause
loop_of s name = do
  v ← found (position (λ n. bytes_eq n name) s.names) (cause.UnknownLoop name)
  _ ← need (has_loop v s.nest) (cause.UnknownLoop name)
  Ok v

-- what each of these gives, in order, or the first cause
abbrev pub each : {A B : Type 0} → (A → Result B Cause) → List A → Result (List B) Cause
each f [] = Ok []
each f (x ∷ xs) = do
  y ← f x
  ys ← each f xs
  Ok (y ∷ ys)

-- the numbers of the loops with these names
unfoldable pub loops_of : Schedule → List (List ℕ) → Result (List ℕ) Cause
loops_of s names = each (loop_of s) names

-- the number of the tensor with this name, where the statement accesses it
unfoldable pub tensor_of : Schedule → List ℕ → Result ℕ Cause
tensor_of s name = do
  t ← found (position (λ n. bytes_eq n name) s.tensors) (cause.UnknownTensor name)
  _ ← need (accesses_tensor s.nest t) (cause.UnknownTensor name)
  Ok t

-- the numbers of the tensors with these names
unfoldable pub tensors_of : Schedule → List (List ℕ) → Result (List ℕ) Cause
tensors_of s names = each (tensor_of s) names

-- a word that is a name
unfoldable pub name_in : List ℕ → Result (List ℕ) Cause
name_in word = do
  _ ← need (is_name word) cause.Syntax
  Ok word

-- words that are all names
unfoldable pub names_of : List (List ℕ) → Result (List (List ℕ)) Cause
names_of words = each name_in words

-- the numbers of the loops that these words name, at least so many
unfoldable pub loops_in : Schedule → ℕ → List (List ℕ) → Result (List ℕ) Cause
loops_in s least words = do
  names ← names_of words
  _ ← need (nat_le least (length names)) cause.Syntax
  loops_of s names
