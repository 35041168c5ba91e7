-- Lemmas on the names that are collected before the lines are read.
use Rattle.std.proofs.Common.{◌≡◌, ◌<◌, List, [], ◌∷◌, ◌++◌, length, Ok, Err, codes, Result, refl, ap, ◌∙◌, subst, inl, inr, arith}
use Rattle.std.specs.Str.Lines.{IsFirstLine as FirstLine}
use Rattle.words.specs.Interned.{texts, firsts}
use Rattle.words.specs.Lines.{Lines}
use Rattle.words.specs.Texts.{Text}
use Rattle.words.specs.Words.{Content, First}
use Rattle.words.specs.declared.interner_struct.Names.{Names}
use Rattle.words.proofs.Lined.{lines_push}
use Rattle.words.specs.declared.faults.Fault.TheVariants.{Line as At, NoMemory}
use Rattle.record_text.specs.declared.texts.Texts.{Texts}
use Rattle.record_text.specs.Faults.{Fault}
use Rattle.record_text.specs.Collecting.{Begins, Other, Gathered, Gathers, NameAdded, LineCollected}

-- the two first words of a line
pub begins : (k l c x d w e : Text) → x ≡ k → Content l c → First c x d → First d w e → Begins k l w
begins k l c x d w e same content first second = (c, content, d, e, subst (λ (v : Text). First c v d) same first, second)

-- a line with another first word
pub other_word : (k l c x d : Text) → (x ≡ k → ⊥) → Content l c → First c x d → Other k l
other_word k l c x d not content first = (c, content, inr (x, d, first, inl not))

pub module_collected : (t : Texts) (names : Names) (l w : Text) (r : Result (Unit {0}) Fault) → Begins (codes "module") l w → Other (codes "package") l → NameAdded t.modules w names r → LineCollected t l (record { names = t.names; modules = names; packages = t.packages }) r
module_collected t names l w (Ok u) h not added = (refl, inl (w, h, added), inr (not, refl))
module_collected t names l w (Err (At n e s)) h not added = added
module_collected t names l w (Err NoMemory) h not added = tt

pub not_package : (x : Text) → x ≡ codes "module" → x ≡ codes "package" → ⊥
not_package x a b = omega (arith, ap length a, ap length b)

-- one more line
gathers_push : (k : Text) (ls : List Text) (l : Text) (ts us vs : List Text) → Gathers k ts ls us → Gathered k us l vs → Gathers k ts (ls ++ l ∷ []) vs
gathers_push k [] l ts us vs same line = (vs, subst (λ (xs : List Text). Gathered k xs l vs) same line, refl)
gathers_push k (m ∷ ls) l ts us vs (next, here, more) line = (next, here, gathers_push k ls l next us vs more line)

-- the loop has looked at the lines ls, and rest is left
pub record Sofar (w rest : Text) (t : Texts) : Type 0 where
  pub ls : List Text
  pub lines : Lines w ls rest
  pub names : texts t.names ≡ firsts
  pub modules : Gathers (codes "module") [] ls (texts t.modules)
  pub packages : Gathers (codes "package") [] ls (texts t.packages)

pub one_more : (w rest l after : Text) (t u : Texts) → Sofar w rest t → 0 < length rest → FirstLine rest l after → LineCollected t l u (Ok tt) → Sofar w after u
one_more w rest l after t u old some first (names, mods, packs) =
    record {
      ls = old.ls ++ l ∷ [];
      lines = lines_push w old.ls rest l after old.lines some first;
      names = names ∙ old.names;
      modules = gathers_push (codes "module") old.ls l [] (texts t.modules) (texts u.modules) old.modules mods;
      packages = gathers_push (codes "package") old.ls l [] (texts t.packages) (texts u.packages) old.packages packs;
    }
