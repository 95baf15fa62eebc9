-- The tokens that were passed up to a place of a directory: those before its page, and the entries before it on the page.
use mathlib.Core.Path.{◌≡◌, refl, ap, sym, ◌∙◌, subst}
use mathlib.Core.List.{List, [], ◌∷◌, ◌++◌, append_assoc, append-nil}
use Prim.Native.Nat.{ℕ, ◌+◌}
use native.Mathlib.Omega.{arith}
use lib.ListN.{length, length-append}
use Rattle.geometry.specs.declared.Geometry.{Geometry}
use Rattle.geometry.specs.Geometry.{control_size}
use Rattle.packet.specs.Packet.{View}
use Rattle.rules.specs.declared.Entry.{Entry}
use Rattle.rules.specs.Tree.{Token, new_page, entry, entry_tokens}
use Rattle.rules.proofs.TreeLaws.{entries_append}
use Rattle.rules.specs.TreeLaws.{page_tokens, last_page}
use Rattle.editing_theorems.specs.PageChange.{control_on}
use Rattle.entries.specs.declared.Slot.{Slot}
use Rattle.entries.specs.EntrySlots.{at_entry}
use Rattle.entries.specs.TokensAt.{PageAt, Reached}

pub record Passed (g : Geometry) (s : Slot) (ts : List Token) : Type 0 where
  pub before : List Token
  pub entries : List Entry
  pub split : ts ≡ before ++ (new_page s.page ∷ entry_tokens entries)
  pub at_is : length entries ≡ s.at
  pub skip_is : (control : List ℕ) → length control ≡ control_size g → length (control_on g.width control before) ≡ s.skip

-- only a directory's first page has a control field
no_control : (n : ℕ) (control : List ℕ) (a : List Token) (p : ℕ) (ts : List Token) → control_on n control (a ++ (new_page p ∷ ts)) ≡ []
no_control n control [] p ts = go ts
  where
    go : (ts : List Token) → control_on n [] ts ≡ []
    go [] = refl
    go (new_page q ∷ ts) = go ts
    go (entry e ∷ ts) = go ts
no_control n control (new_page q ∷ a) p ts = no_control n [] a p ts
no_control n control (entry e ∷ a) p ts = no_control n control a p ts

-- at the first entry of all
pub passed_first : {g : Geometry} {v : View} {s : Slot} {ts : List Token} → PageAt g v (control_size g) s ts → Passed g s (new_page s.page ∷ [])
passed_first p = record { before = []; entries = []; split = refl; at_is = sym p.at_start; skip_is = λ control l. l ∙ sym p.skip_is }

module _ {g : Geometry} {s : Slot} {ts : List Token} (P : Passed g s ts) where
  open P use {before, entries, split, at_is, skip_is}

  -- and what comes after them
  pub passed_on : (us : List Token) → ts ++ us ≡ before ++ (new_page s.page ∷ (entry_tokens entries ++ us))
  passed_on us = ap (λ (x : List Token). x ++ us) split ∙ append_assoc before (new_page s.page ∷ entry_tokens entries) us

  none_left : (more : List Token) (control : List ℕ) → control_on g.width control (ts ++ more) ≡ []
  none_left more control = ap (control_on g.width control) (passed_on more) ∙ no_control g.width control before s.page (entry_tokens entries ++ more)

  -- past entries of the page
  pub passed_entries : (es : List Entry) (n : ℕ) → s.at + length es ≡ n → Passed g (at_entry s n) (ts ++ entry_tokens es)
  passed_entries es n h = record {
    before = before;
    entries = entries ++ es;
    split = passed_on (entry_tokens es) ∙ ap (λ (x : List Token). before ++ (new_page s.page ∷ x)) (entries_append entries es);
    at_is = omega (arith, length-append entries es, at_is);
    skip_is = skip_is;
  }

  -- past pages
  last_of : (more : List Token) (p : ℕ) (ps : List ℕ) (at : Slot) → at.page ≡ last_page p ps → at.skip ≡ 0 → at.at ≡ 0 → Passed g at ((ts ++ more) ++ (new_page p ∷ page_tokens ps))
  last_of more p [] at e k i = record {
    before = ts ++ more;
    entries = [];
    split = ap (λ (x : ℕ). (ts ++ more) ++ (new_page x ∷ [])) (sym e);
    at_is = sym i;
    skip_is = λ control l. ap length (none_left more control) ∙ sym k;
  }
  last_of more p (q ∷ ps) at e k i =
      let a : (ts ++ (more ++ (new_page p ∷ []))) ++ page_tokens (q ∷ ps) ≡ (ts ++ more) ++ (new_page p ∷ page_tokens (q ∷ ps)) = simp append_assoc in
      subst (Passed g at) a (last_of (more ++ (new_page p ∷ [])) q ps at e k i)

  pub passed_page : {v : View} {s' : Slot} {us : List Token} (es : List Entry) → PageAt g v 0 s' us → Passed g s' ((ts ++ entry_tokens es) ++ (new_page s'.page ∷ []))
  passed_page {s' = s'} es p = last_of (entry_tokens es) s'.page [] s' refl p.skip_is p.at_start

  pub passed_pages : {at : Slot} (ps : List ℕ) → at.page ≡ last_page s.page ps → Reached s ps at → Passed g at (ts ++ page_tokens ps)
  passed_pages [] e r = subst (λ (x : Slot). Passed g x (ts ++ [])) (sym r) (subst (Passed g s) (sym (append-nil ts)) P)
  passed_pages {at = at} (p ∷ ps) e r = subst (λ (x : List Token). Passed g at (x ++ (new_page p ∷ page_tokens ps))) (append-nil ts) (last_of [] p ps at e r.0 r.1)
