-- The code's writes of a directory's pages are the rule's.
use Rattle.std.specs.Prelude.{◌≡◌, List, ℕ, length}
use Rattle.std.proofs.Common.{inl, inr, eq-zero-or-pos, arith}
use Rattle.geometry.specs.declared.Geometry.{Geometry}
use Rattle.packet.specs.Packet.{good, view_of}
use Rattle.packet.specs.Budgets.{Progress, write_all}
use Rattle.rules.specs.declared.Entry.{Entry}
use Rattle.editing_theorems.specs.PageChange.{entries_bytes}
use Rattle.editing_theorems.specs.EditedImage.{DirectoryOf, OneEdit, ws₂, image₁}
use Rattle.writes.specs.declared.Change.{Change}
use Rattle.writes.specs.Changes.{CanChange, change_writes}
use Rattle.edit.specs.Entering.{Entering}
use Rattle.edit.specs.ExchangeLaws.{can_exchange, exchanged_is}
use Rattle.edit.specs.JoinLaws.{can_join, joined_is}

module _ {g : Geometry} {image marks : List ℕ} {D : DirectoryOf g image marks} (E : OneEdit D) (c : Change) (more : List Entry) (X : Entering E c more) where
  pub can_change : CanChange g (view_of g (image₁ E)) c (length (entries_bytes g.width more))
  can_change = elim (eq-zero-or-pos c.joins) [
    | inl z ↦ record { below = (can_exchange E c more (X.exchanges z)).0; exchange = λ y. (can_exchange E c more (X.exchanges y)).1; join = λ y. absurd (y z) }
    | inr z ↦ record {
      below = (can_join E c more (λ y. omega arith) (X.joins (λ y. omega arith))).0;
      exchange = λ y. absurd (omega arith);
      join = λ y. (can_join E c more y (X.joins y)).1;
    }
  ]

  pub changed_is : (s t : Progress) → s.image ≡ image₁ E
      → ((b : List ℕ) (k : ℕ) → view_of g s.image c.slot.page ≡ good b k → t ≡ write_all g (change_writes g c (entries_bytes g.width more) b) s) → t ≡ write_all g (ws₂ E) s
  changed_is s t e h = elim (eq-zero-or-pos c.joins) [
    | inl z ↦ exchanged_is E c more (X.exchanges z) z s t e h
    | inr z ↦ let y : c.joins ≡ 0 → ⊥ = λ y. omega arith in joined_is E c more y (X.joins y) s t e h
  ]
