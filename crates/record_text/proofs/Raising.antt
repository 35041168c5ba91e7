-- Lemmas on flags that are raised one after another.
use Rattle.std.proofs.Common.{◌≡◌, ℕ, ◌+◌, ◌<◌, List, [], ◌∷◌, ◌++◌, map, length, get_or, take, sym, refl, ap, ◌∙◌, Bor}
use Rattle.std.proofs.lemmas.List.{map_push, map_more}
use Rattle.host.specs.declared.told.SymbolDeclFlags.{SymbolDeclFlags}
use Rattle.words.specs.Texts.{Text}
use Rattle.record_text.specs.declared.flagging.Flag.{Flag}
use Rattle.record_text.specs.Flags.{flag_word, raised, all_raised, unflagged, Raises}

raised_push : (s : SymbolDeclFlags) (fs : List Flag) (f : Flag) → all_raised s (fs ++ f ∷ []) ≡ raised f (all_raised s fs)
raised_push s [] f = refl
raised_push s (g ∷ fs) f = raised_push (raised g s) fs f

-- a turn of the loop over the words
pub raises_turn : (ws : List (Bor Text)) (i : ℕ) (d : Bor Text) (s s' : SymbolDeclFlags) (f : Flag) → i < length ws → Raises (map (λ x. x.now) (take i ws)) s → (get_or ws i d).now ≡ flag_word f → s' ≡ raised f s → Raises (map (λ x. x.now) (take (i + 1) ws)) s'
raises_turn ws i d s s' f h (fs, same, all) word up = (
  fs ++ f ∷ [],
  map_more (λ (x : Bor Text). x.now) ws i d h ∙ ap (λ xs. xs ++ (get_or ws i d).now ∷ []) same ∙ ap (λ x. map flag_word fs ++ x ∷ []) word ∙ sym (map_push flag_word fs f),
  up ∙ ap (raised f) all ∙ sym (raised_push unflagged fs f),
)
