-- Reading a list of tokens from the front.
use Rattle.std.proofs.Common.{◌≡◌, ℕ, suc, ◌+◌, ◌≤◌, ◌<◌, List, [], ◌∷◌, ◌++◌, length, drop, map, get_or, Bool, true, false, ◌&&◌, Option, Some, None, option_map, refl, ap, sym, ◌∙◌, add-one, append_assoc, append-nil}
use Rattle.std.specs.List.{list_all}
use Rattle.std.proofs.lemmas.List.{drop_all}
use Rattle.std.proofs.Math.Seq.{drop-cons}
use Rattle.dt_text.specs.Numbers.{all_numbers_of, number_of}
use Rattle.dt_text.specs.Spans.{token_in}
use Rattle.dt_text.specs.declared.token_list.Token.{Token}

-- the words from the i-th on
abbrev pub words_from : List ℕ → List Token → ℕ → List (List ℕ)
words_from text tokens i = map (token_in text) (drop i tokens)

-- the next word, and those behind it
pub words_from-next : (text : List ℕ) (tokens : List Token) (i : ℕ) (d : Token) (w : List ℕ) → i < length tokens → w ≡ token_in text (get_or tokens i d) → words_from text tokens i ≡ w ∷ words_from text tokens (i + 1)
words_from-next text tokens i d w h e = rw add-one (ap (λ (ts : List Token). map (token_in text) ts) (drop-cons tokens i d h) ∙ ap (λ (x : List ℕ). x ∷ map (token_in text) (drop (suc i) tokens)) (sym e))

-- no word is left
pub words_from-end : (text : List ℕ) (tokens : List Token) (i : ℕ) → length tokens ≤ i → words_from text tokens i ≡ []
words_from-end text tokens i h = ap (λ (ts : List Token). map (token_in text) ts) (drop_all i tokens h)

-- the numbers that were read, and those to read
abbrev pub behind_front : List ℕ → Option (List ℕ) → Option (List ℕ)
behind_front front numbers = option_map (λ ns. front ++ ns) numbers

behind_front-push : (front : List ℕ) (n : ℕ) (o : Option (List ℕ)) → behind_front (front ++ n ∷ []) o ≡ behind_front front (option_map (λ ns. n ∷ ns) o)
behind_front-push front n (Some ns) = ap Some (append_assoc front (n ∷ []) ns)
behind_front-push front n None = refl

all_numbers_of-nil : all_numbers_of [] ≡ Some []
unfolding all_numbers_of
all_numbers_of-nil = refl

all_numbers_of-some : (w : List ℕ) (ws : List (List ℕ)) (n : ℕ) → Some n ≡ number_of w → all_numbers_of (w ∷ ws) ≡ option_map (λ ns. n ∷ ns) (all_numbers_of ws)
unfolding all_numbers_of
all_numbers_of-some w ws n e = rw (← e) refl

all_numbers_of-none : (w : List ℕ) (ws : List (List ℕ)) → None ≡ number_of w → all_numbers_of (w ∷ ws) ≡ None
unfolding all_numbers_of
all_numbers_of-none w ws e = rw (← e) refl

-- nothing is read yet
pub number_begin : (o : Option (List ℕ)) → behind_front [] o ≡ o
number_begin (Some ns) = refl
number_begin None = refl

-- one more number is read
pub number_more : (text : List ℕ) (tokens : List Token) (i : ℕ) (d : Token) (w : List ℕ) (front after : List ℕ) (n : ℕ) (whole : Option (List ℕ)) → i < length tokens → w ≡ token_in text (get_or tokens i d) → Some n ≡ number_of w
    → after ≡ front ++ n ∷ [] → behind_front front (all_numbers_of (words_from text tokens i)) ≡ whole → behind_front after (all_numbers_of (words_from text tokens (i + 1))) ≡ whole
number_more text tokens i d w front after n whole h e s a k =
    ap (λ (f : List ℕ). behind_front f (all_numbers_of (words_from text tokens (i + 1)))) a ∙ behind_front-push front n (all_numbers_of (words_from text tokens (i + 1)))
    ∙ ap (λ (o : Option (List ℕ)). behind_front front o) (sym (all_numbers_of-some w (words_from text tokens (i + 1)) n s) ∙ ap (λ (ws : List (List ℕ)). all_numbers_of ws) (sym (words_from-next text tokens i d w h e))) ∙ k

-- the next word has no number
pub number_stop : (text : List ℕ) (tokens : List Token) (i : ℕ) (d : Token) (w : List ℕ) (front : List ℕ) (whole : Option (List ℕ)) → i < length tokens → w ≡ token_in text (get_or tokens i d) → None ≡ number_of w
    → behind_front front (all_numbers_of (words_from text tokens i)) ≡ whole → None ≡ whole
number_stop text tokens i d w front whole h e s k =
    sym (ap (λ (ws : List (List ℕ)). behind_front front (all_numbers_of ws)) (words_from-next text tokens i d w h e) ∙ ap (λ (o : Option (List ℕ)). behind_front front o) (all_numbers_of-none w (words_from text tokens (i + 1)) s)) ∙ k

-- every number is read
pub number_end : (text : List ℕ) (tokens : List Token) (i : ℕ) (front : List ℕ) (whole : Option (List ℕ)) → length tokens ≤ i → behind_front front (all_numbers_of (words_from text tokens i)) ≡ whole → Some front ≡ whole
number_end text tokens i front whole h k =
    sym (ap (λ (ws : List (List ℕ)). behind_front front (all_numbers_of ws)) (words_from-end text tokens i h) ∙ ap (λ (o : Option (List ℕ)). behind_front front o) all_numbers_of-nil ∙ ap Some (append-nil front)) ∙ k

-- the next word passes
pub words_more : (p : List ℕ → Bool) (text : List ℕ) (tokens : List Token) (i : ℕ) (d : Token) (w : List ℕ) (whole : Bool) → i < length tokens → w ≡ token_in text (get_or tokens i d) → p w ≡ true
    → list_all p (words_from text tokens i) ≡ whole → list_all p (words_from text tokens (i + 1)) ≡ whole
words_more p text tokens i d w whole h e s k =
    ap (λ (b : Bool). b && list_all p (words_from text tokens (i + 1))) (sym s) ∙ ap (λ (ws : List (List ℕ)). list_all p ws) (sym (words_from-next text tokens i d w h e)) ∙ k

-- the next word does not pass
pub words_stop : (p : List ℕ → Bool) (text : List ℕ) (tokens : List Token) (i : ℕ) (d : Token) (w : List ℕ) (whole : Bool) → i < length tokens → w ≡ token_in text (get_or tokens i d) → p w ≡ false
    → list_all p (words_from text tokens i) ≡ whole → false ≡ whole
words_stop p text tokens i d w whole h e s k =
    ap (λ (b : Bool). b && list_all p (words_from text tokens (i + 1))) (sym s) ∙ ap (λ (ws : List (List ℕ)). list_all p ws) (sym (words_from-next text tokens i d w h e)) ∙ k

-- every word passes
pub words_end : (p : List ℕ → Bool) (text : List ℕ) (tokens : List Token) (i : ℕ) (whole : Bool) → length tokens ≤ i → list_all p (words_from text tokens i) ≡ whole → true ≡ whole
words_end p text tokens i whole h k = ap (λ (ws : List (List ℕ)). list_all p ws) (sym (words_from-end text tokens i h)) ∙ k
