-- Units of zeros, allocs, copies, folds and frees keep to the footprints of their operations.
use Rattle.std.proofs.Common.{◌≡◌, ◌≢◌, ℕ, ◌<◌, true, not, ◌&&◌, List, [], ◌∷◌, length, Option, Some, None, is_some, refl, sym, ap, ap₂, subst}
use Rattle.std.specs.Prelude.{nat_eq, option_map, unwrap_or}
use Rattle.dt_runs.specs.Sets.{contains}
use Rattle.dt_argument.specs.Frames.{Mode, Untouched, Writes, SamePresence, SameInputs, IsFramed}
use Rattle.dt_argument.specs.Joined.{IsInput, IsOutput}
use Rattle.dt_argument.proofs.Shapes.{present_at, input_at, input_touched, output_touched, framed_still, framed_write, framed_grow}
use Rattle.dt_plan.specs.declared.touches.Buffer.{Buffer}
use Rattle.dt_plan.specs.declared.touches.Mode.TheVariants as how
use Rattle.dt_plan.specs.declared.touches.Touch.{Touch}
use Rattle.dt_plan.specs.Footprints.{some_words, whole_buffer}
use Rattle.dt_events.specs.State.{Cell, Word, Sign, State, is_of, is_word_of, number_at, overwritten, opened_at, with_buffer, without_buffer, touches_at}
use Rattle.dt_events.specs.Units.{are_present, copied, folded}
use Rattle.dt_events.proofs.Cells.{sign_is_of, is_the_word}
use Rattle.dt_events.proofs.Touched.{words_touched, word_touched, sign_read, whole_written, first_input, second_written, second_output, only_written, only_input}

-- what is written may be used
written_input : (m : Mode) → m ≡ Writes → IsInput m
written_input m e = subst IsInput (sym e) tt

-- whether a cell is present, which may be used, is the same in both states
present_same : (modes : Cell → Mode) (c : Cell) → IsInput (modes c) → (s t : State) → SamePresence modes s t → is_some (s c) ≡ is_some (t c)
present_same modes c i s t h = present_at (modes c) (s c) (t c) (input_touched (modes c) i) (h c)

-- a zero
pub zero_framed : (n : ℕ) (b : Buffer) (words : List ℕ) (i : ℕ) → 0 < length words
    → IsFramed (touches_at (some_words n b words how.Write ∷ [])) (λ s. nat_eq i 1 && is_some (s (Sign n b))) (overwritten n b words 0)
zero_framed n b words i some =
    let modes : Cell → Mode = touches_at (some_words n b words how.Write ∷ []) in
    framed_write modes (λ (s : State). nat_eq i 1 && is_some (s (Sign n b)))
    (λ s t h. ap (λ x. nat_eq i 1 && x) (present_same modes (Sign n b) (only_input (some_words n b words how.Write) (Sign n b) (sign_read n b words some)) s t h))
    (is_word_of n b words) (λ s c. option_map (λ x. 0) (s c))
    (λ c e. only_written (some_words n b words how.Write) c (words_touched n b words how.Write c e))
    (λ s t h c e same. ap (option_map (λ x. 0)) same)

-- the sign of a whole buffer is present in both states or in neither
whole_sign : (n : ℕ) (b : Buffer) (s t : State) → SamePresence (touches_at (whole_buffer n b ∷ [])) s t → is_some (s (Sign n b)) ≡ is_some (t (Sign n b))
whole_sign n b s t h =
    let modes : Cell → Mode = touches_at (whole_buffer n b ∷ []) in
    present_same modes (Sign n b) (written_input (modes (Sign n b)) (only_written (whole_buffer n b) (Sign n b) (whole_written n b (Sign n b) (sign_is_of n b)))) s t h

-- an alloc
pub alloc_framed : (n : ℕ) (b : Buffer) (words : List ℕ) (i : ℕ) → IsFramed (touches_at (whole_buffer n b ∷ [])) (λ s. nat_eq i 1 && not (is_some (s (Sign n b)))) (with_buffer n b words)
alloc_framed n b words i =
    framed_write (touches_at (whole_buffer n b ∷ [])) (λ (s : State). nat_eq i 1 && not (is_some (s (Sign n b))))
    (λ s t h. ap (λ x. nat_eq i 1 && not x) (whole_sign n b s t h))
    (is_of n b) (λ s c. opened_at words c)
    (λ c e. only_written (whole_buffer n b) c (whole_written n b c e))
    (λ s t h c e same. refl)

-- a free
pub free_framed : (n : ℕ) (b : Buffer) (i : ℕ) → IsFramed (touches_at (whole_buffer n b ∷ [])) (λ s. nat_eq i 1 && is_some (s (Sign n b))) (without_buffer n b)
free_framed n b i =
    framed_write (touches_at (whole_buffer n b ∷ [])) (λ (s : State). nat_eq i 1 && is_some (s (Sign n b)))
    (λ s t h. ap (λ x. nat_eq i 1 && x) (whole_sign n b s t h))
    (is_of n b) (λ s c. None)
    (λ c e. only_written (whole_buffer n b) c (whole_written n b c e))
    (λ s t h c e same. refl)

-- A copy and a fold: a word of the first buffer is read, and that of the second written or folded --------------------------

module _ (n : ℕ) (b : Buffer) (m : ℕ) (d : Buffer) (words : List ℕ) where
  -- the word that is read may be used
  from_input : (g : Touch) (w : ℕ) → contains words w ≡ true → IsInput (touches_at (some_words n b words how.Read ∷ g ∷ []) (Word n b w))
  from_input g w h = first_input (some_words n b words how.Read) g (Word n b w) (word_touched n b words how.Read w h)

  -- it has one number in both states
  number_same : (g : Touch) (w : ℕ) → contains words w ≡ true → (s t : State) → SameInputs (touches_at (some_words n b words how.Read ∷ g ∷ [])) s t → number_at s (Word n b w) ≡ number_at t (Word n b w)
  number_same g w h s t same =
      ap (λ x. unwrap_or x 0) (input_at (touches_at (some_words n b words how.Read ∷ g ∷ []) (Word n b w)) (s (Word n b w)) (t (Word n b w)) (from_input g w h) (same (Word n b w)))

  -- both words are present in both states or in neither
  both_same : (g : Touch) (w : ℕ) → contains words w ≡ true → touches_at (some_words n b words how.Read ∷ g ∷ []) (Word m d w) ≢ Untouched
      → (s t : State) → SamePresence (touches_at (some_words n b words how.Read ∷ g ∷ [])) s t → are_present n b m d (Some w) s ≡ are_present n b m d (Some w) t
  both_same g w h touched s t same =
      let modes : Cell → Mode = touches_at (some_words n b words how.Read ∷ g ∷ []) in
      ap₂ ◌&&◌ (present_same modes (Word n b w) (from_input g w h) s t same) (present_at (modes (Word m d w)) (s (Word m d w)) (t (Word m d w)) touched (same (Word m d w)))

  -- a copy
  pub copy_framed : (o : Option ℕ) → ((w : ℕ) → o ≡ Some w → contains words w ≡ true)
      → IsFramed (touches_at (some_words n b words how.Read ∷ some_words m d words how.Write ∷ [])) (are_present n b m d o) (copied n b m d o)
  copy_framed None h = framed_still (touches_at (some_words n b words how.Read ∷ some_words m d words how.Write ∷ [])) (are_present n b m d None) (λ s t g. refl)
  copy_framed (Some w) h =
      let here : contains words w ≡ true = h w refl in
      let modes : Cell → Mode = touches_at (some_words n b words how.Read ∷ some_words m d words how.Write ∷ []) in
      let written : modes (Word m d w) ≡ Writes = second_written (some_words n b words how.Read) (some_words m d words how.Write) (Word m d w) (word_touched m d words how.Write w here) in
      framed_write modes (are_present n b m d (Some w))
      (both_same (some_words m d words how.Write) w here (input_touched (modes (Word m d w)) (written_input (modes (Word m d w)) written)))
      (is_word_of m d (w ∷ [])) (λ s c. option_map (λ x. number_at s (Word n b w)) (s c))
      (λ c e. subst (λ (x : Cell). modes x ≡ Writes) (sym (is_the_word m d w c e)) written)
      (λ s t same c e one. ap₂ (λ v x. option_map (λ y. v) x) (number_same (some_words m d words how.Write) w here s t same) one)

  -- a fold
  pub fold_framed : (o : Option ℕ) → ((w : ℕ) → o ≡ Some w → contains words w ≡ true)
      → IsFramed (touches_at (some_words n b words how.Read ∷ some_words m d words how.Fold ∷ [])) (are_present n b m d o) (folded n b m d o)
  fold_framed None h = framed_still (touches_at (some_words n b words how.Read ∷ some_words m d words how.Fold ∷ [])) (are_present n b m d None) (λ s t g. refl)
  fold_framed (Some w) h =
      let here : contains words w ≡ true = h w refl in
      let modes : Cell → Mode = touches_at (some_words n b words how.Read ∷ some_words m d words how.Fold ∷ []) in
      let grows : IsOutput (modes (Word m d w)) = second_output (some_words n b words how.Read) (some_words m d words how.Fold) (Word m d w) (subst IsOutput (sym (word_touched m d words how.Fold w here)) tt) in
      framed_grow modes (are_present n b m d (Some w))
      (both_same (some_words m d words how.Fold) w here (output_touched (modes (Word m d w)) grows))
      (is_word_of m d (w ∷ [])) (λ s. number_at s (Word n b w))
      (λ c e. subst (λ (x : Cell). IsOutput (modes x)) (sym (is_the_word m d w c e)) grows)
      (number_same (some_words m d words how.Fold) w here)
