-- What a command line keeps, by what it answers.
use Rattle.std.proofs.Common.{◌≡◌, ℕ, Bool, true, false, List, [], ◌∷◌, Option, Some, None, codes, Result, Ok, Err, IfOk, refl, sym, subst, if◌then◌else◌}
use Rattle.std.specs.Str.{bytes_eq}
use Rattle.dt_model.specs.declared.cause.Cause.{Cause}
use Rattle.dt_model.specs.Positions.{StoredTensor}
use Rattle.dt_model.specs.Steps.{◌>>=◌, found, none}
use Rattle.dt_nest.specs.declared.commands.RewriteEnd.{RewriteEnd}
use Rattle.dt_nest.specs.Schedule.{Schedule}
use Rattle.dt_nest.specs.Lawful.{IsLawful}
use Rattle.dt_nest.specs.FitsStored.{FitsStored}
use Rattle.dt_nest.specs.Grid.{IsOnGrid}
use Rattle.dt_nest.specs.Commands.{Answers, KeepsSum, KeepsAccesses}
use Rattle.dt_model.specs.declared.cause.Cause.TheVariants as cause
use Rattle.dt_schedule.specs.declared.command_words.CommandWord.{CommandWord}
use Rattle.dt_schedule.specs.declared.command_words.CommandWord.TheVariants as kind
use Rattle.dt_schedule.specs.CommandWords.{word_of}
use Rattle.dt_schedule.specs.declared.commands.Command.{Command}
use Rattle.dt_schedule.specs.declared.commands.Command.TheVariants as command
use Rattle.dt_schedule.specs.Collapses.{collapse_of}
use Rattle.dt_schedule.specs.CommandForms.{command_of, form_of}
use Rattle.dt_schedule.specs.Communicates.{communicate_names, communicate_of}
use Rattle.dt_schedule.specs.Distributes.{distribute_of}
use Rattle.dt_schedule.specs.Divides.{divide_of}
use Rattle.dt_schedule.specs.NamesOf.{names_of, loops_in, loops_of, tensors_of, loop_of}
use Rattle.dt_schedule.specs.Reorders.{reorder_of}
use Rattle.dt_schedule.specs.Rotates.{rotate_names, rotate_of}
use Rattle.dt_schedule.specs.Splits.{split_of}
use Rattle.dt_schedule.specs.TwoLoops.{two_loops_of}
use Rattle.dt_schedule.specs.Commands.{AnswersLine, LineKeeps, command_line, rule_of}
use Rattle.dt_schedule.specs.CommandLaws.{command_keeps}

-- The command of a line ---------------------------------------------------------------------------------------------------

-- the command is for the machine, and the tensors suit it
abbrev pub IsFor : Schedule → List ℕ → List StoredTensor → Command → Type 0
IsFor s grid stored c = (rule_of c).serves grid × (rule_of c).suits stored s

-- what holds of each result of the next step holds after it
after : {A : Type 0} (P : Command → Type 0) (r : Result A Cause) (k : A → Result Command Cause) → ((x : A) → IfOk (k x) P) → IfOk (r >>= k) P
after P (Ok x) k h = h x
after P (Err e) k h = tt

module _ (s : Schedule) (grid : List ℕ) (stored : List StoredTensor) where
  split_for : (words : List (List ℕ)) → IfOk (split_of s words) (IsFor s grid stored)
  unfolding split_of
  split_for words = after (IsFor s grid stored) (two_loops_of s words) _ (λ t. (tt, tt))

  divide_for : (words : List (List ℕ)) → IfOk (divide_of s words) (IsFor s grid stored)
  unfolding divide_of
  divide_for words = after (IsFor s grid stored) (two_loops_of s words) _ (λ t. (tt, tt))

  reorder_for : (words : List (List ℕ)) → IfOk (reorder_of s words) (IsFor s grid stored)
  unfolding reorder_of
  reorder_for words = after (IsFor s grid stored) (loops_in s 2 words) _ (λ vars. (tt, tt))

  collapse_for : (words : List (List ℕ)) → IfOk (collapse_of s words) (IsFor s grid stored)
  unfolding collapse_of
  collapse_for [] = tt
  collapse_for (a ∷ []) = tt
  collapse_for (a ∷ b ∷ []) = tt
  collapse_for (a ∷ b ∷ fused ∷ []) = after (IsFor s grid stored) _ _ (λ u. after (IsFor s grid stored) (loop_of s a) _ (λ outer. after (IsFor s grid stored) (loop_of s b) _ (λ inner. (tt, tt))))
  collapse_for (a ∷ b ∷ c ∷ d ∷ words) = tt

  rotate_for : (words : List (List ℕ)) → IfOk (rotate_of s words) (IsFor s grid stored)
  unfolding rotate_of rotate_names
  rotate_for words = after (IsFor s grid stored) (names_of words) _ named
    where
      named : (names : List (List ℕ)) → IfOk (rotate_names s names) (IsFor s grid stored)
      named [] = tt
      named (t ∷ names) = after (IsFor s grid stored) _ _ (λ u. after (IsFor s grid stored) (loop_of s t) _ (λ var. after (IsFor s grid stored) (loops_of s _) _ (λ by. (tt, tt))))

  distribute_for : (words : List (List ℕ)) → IfOk (distribute_of s grid words) (IsFor s grid stored)
  unfolding distribute_of
  distribute_for words = after (IsFor s grid stored) (loops_in s 1 words) _ (λ vars. (refl, tt))

  communicate_for : (words : List (List ℕ)) → IfOk (communicate_of s words) (IsFor s grid stored)
  unfolding communicate_of communicate_names
  communicate_for words = after (IsFor s grid stored) (names_of words) _ named
    where
      named : (names : List (List ℕ)) → IfOk (communicate_names s names) (IsFor s grid stored)
      named [] = tt
      named (v ∷ names) = after (IsFor s grid stored) _ _ (λ u. after (IsFor s grid stored) (loop_of s v) _ (λ var. after (IsFor s grid stored) (tensors_of s names) _ (λ tensors. (tt, tt))))

  form_for : (k : CommandWord) (words : List (List ℕ)) → IfOk (form_of s grid stored k words) (IsFor s grid stored)
  unfolding form_of
  form_for kind.Split words = split_for words
  form_for kind.Divide words = divide_for words
  form_for kind.Reorder words = reorder_for words
  form_for kind.Collapse words = collapse_for words
  form_for kind.Rotate words = rotate_for words
  form_for kind.Distribute words = distribute_for words
  form_for kind.Communicate words = communicate_for words

  -- the command of a line is for the machine whose dimensions it gets
  pub command_for : (words : List (List ℕ)) → IfOk (command_of s grid stored words) (IsFor s grid stored)
  unfolding command_of
  command_for [] = tt
  command_for (word ∷ words) = after (IsFor s grid stored) (found (word_of word) cause.UnknownWord) _ (λ k. form_for k words)

-- What a line keeps -------------------------------------------------------------------------------------------------------

-- a command of a line that is done keeps what a line keeps
pub answers_keep : (s : Schedule) (grid : List ℕ) (stored : List StoredTensor) (words : List (List ℕ)) (c : Command) → IsLawful s → command_of s grid stored words ≡ Ok c → (rule_of c).can s → (r : Result Schedule RewriteEnd)
    → Answers ((rule_of c).cause s) ((rule_of c).effect s) s r → IfOk r (λ new. LineKeeps grid stored s new)
answers_keep s grid stored words c l e k (Ok new) a =
    let for : IsFor s grid stored c = subst (λ (r : Result Command Cause). IfOk r (IsFor s grid stored)) e (command_for s grid stored words) in
    let t = command_keeps c s l k a.0 in
    subst (LineKeeps grid stored s) (sym a.1) (record { sum = t.sum; accesses = t.accesses; fit = λ f. t.fit stored for.1 f; grid = λ g. t.grid grid for.0 g })
answers_keep s grid stored words c l e k (Err end) a = tt

-- so the parts of that
module _ (s : Schedule) (grid : List ℕ) (stored : List StoredTensor) where
  pub keeps_sum : (r : Result Schedule RewriteEnd) → IfOk r (λ new. LineKeeps grid stored s new) → IfOk r (λ new. KeepsSum s new)
  keeps_sum (Ok new) k = k.sum
  keeps_sum (Err end) k = tt

  pub keeps_accesses : (r : Result Schedule RewriteEnd) → IfOk r (λ new. LineKeeps grid stored s new) → IfOk r (λ new. KeepsAccesses s new)
  keeps_accesses (Ok new) k = k.accesses
  keeps_accesses (Err end) k = tt

  pub keeps_fit : FitsStored stored s → (r : Result Schedule RewriteEnd) → IfOk r (λ new. LineKeeps grid stored s new) → IfOk r (λ new. FitsStored stored new)
  keeps_fit f (Ok new) k = k.fit f
  keeps_fit f (Err end) k = tt

  pub keeps_grid : (r : Result Schedule RewriteEnd) → IfOk r (λ new. LineKeeps grid stored s new) → IfOk r (λ new. IsOnGrid grid s → IsOnGrid grid new)
  keeps_grid (Ok new) k = k.grid
  keeps_grid (Err end) k = tt

-- No command that there is makes workspaces -------------------------------------------------------------------------------

same_works : (c : Command) (s : Schedule) → ((rule_of c).effect s).works ≡ s.works
same_works (command.Split c) s = refl
same_works (command.Divide c) s = refl
same_works (command.Reorder c) s = refl
same_works (command.Collapse c) s = refl
same_works (command.Rotate c) s = refl
same_works (command.Distribute c) s = refl
same_works (command.Communicate c) s = refl

-- a line keeps the workspaces, until a command makes some
pub line_works : (s : Schedule) (grid : List ℕ) (stored : List StoredTensor) (words : List (List ℕ)) (new : Schedule) → command_line s grid stored words ≡ Ok new → new.works ≡ s.works
unfolding command_line
line_works s grid stored words new h = read (command_of s grid stored words) h
  where
    tested : (c : Command) (cause : Option Cause) → (none cause >>= λ _. Ok ((rule_of c).effect s)) ≡ Ok new → new.works ≡ s.works
    tested c None h = subst (λ (r : Result Schedule Cause). IfOk r (λ n. n.works ≡ s.works)) h (same_works c s)
    tested c (Some cause) h = absurd (cc)

    read : (r : Result Command Cause) → (r >>= λ c. none ((rule_of c).cause s) >>= λ _. Ok ((rule_of c).effect s)) ≡ Ok new → new.works ≡ s.works
    read (Ok c) h = tested c ((rule_of c).cause s) h
    read (Err cause) h = absurd (cc)
