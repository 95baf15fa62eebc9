-- The place of an entry as an edit takes it: with its stamps, to be removed; or by itself behind them, to be replaced.
use Rattle.std.specs.Prelude.{◌≡◌, List, [], ◌∷◌, ◌++◌, ℕ, ◌+◌, ◌-◌, ◌≤◌, length}
use Rattle.std.proofs.Common.{ap, ◌∙◌, arith, length-append}
use Rattle.geometry.specs.declared.Geometry.{Geometry}
use Rattle.packet.specs.Packet.{View}
use Rattle.rules.specs.declared.Entry.{Entry}
use Rattle.rules.specs.Chain.{Link}
use Rattle.rules.specs.Tree.{Label, Items, file_entry, Token, new_page, entry, entry_tokens, tokens}
use Rattle.rules.proofs.TreeLaws.{entries_join}
use Rattle.rules.specs.Paths.{a_file, find}
use Rattle.rules.specs.Put.{replace}
use Rattle.entries.specs.declared.Slot.{Slot}
use Rattle.lookup.specs.Searches.{PlaceOf}

module _ {g : Geometry} {v : View} {k : ℕ} {t : Items} {s : Slot} {m : ℕ} {e : Entry} (P : PlaceOf g v k t s m e) where
  open P use {before, entries, stamps, later, shape, replaced, stamped_is, at_is}

  -- with its stamps
  pub group_shape : tokens t ≡ before ++ (new_page s.page ∷ (entry_tokens entries ++ (entry_tokens (stamps ++ (e ∷ [])) ++ later)))
  group_shape = shape ∙ ap (λ (ts : List Token). before ++ (new_page s.page ∷ (entry_tokens entries ++ ts))) (entries_join stamps (e ∷ []) later)

  pub group_first : length entries ≡ s.at - m
  group_first = omega (arith, at_is)

  pub group_last : length entries + length (stamps ++ (e ∷ [])) ≡ s.at + 1
  group_last = omega (arith, at_is, stamped_is, length-append stamps (e ∷ []))

  pub stamps_before : m ≤ s.at
  stamps_before = omega (arith, at_is)

  -- by itself
  pub entry_shape : tokens t ≡ before ++ (new_page s.page ∷ (entry_tokens (entries ++ stamps) ++ (entry e ∷ later)))
  entry_shape = shape ∙ ap (λ (ts : List Token). before ++ (new_page s.page ∷ ts)) (entries_join entries stamps (entry e ∷ later))

  pub entry_replaced : (l : Label) (ls new : List Link) → find k t ≡ a_file l ls
      → tokens (replace k new t) ≡ before ++ (new_page s.page ∷ (entry_tokens (entries ++ stamps) ++ (entry (file_entry l new) ∷ later)))
  entry_replaced l ls new z = replaced l ls new z ∙ ap (λ (ts : List Token). before ++ (new_page s.page ∷ ts)) (entries_join entries stamps (entry (file_entry l new) ∷ later))

  pub entry_first : length (entries ++ stamps) ≡ s.at
  entry_first = omega (arith, at_is, stamped_is, length-append entries stamps)
