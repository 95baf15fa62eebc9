-- What stands at a place, by its kind: its key, the tokens from it on, whether an entry follows in its page.
use mathlib.Core.Path.{◌≡◌, refl, ap, sym, ◌∙◌, subst}
use mathlib.Core.Bool.{true, false}
use mathlib.Core.List.{List, [], ◌∷◌}
use Prim.Native.Nat.{ℕ, ◌+◌, ◌*◌, ◌<◌}
use native.Mathlib.Omega.{arith}
use lib.Dec.{eqb}
use lib.ListN.{drop}
use Rattle.geometry.specs.declared.Geometry.{Geometry}
use Rattle.geometry.specs.Geometry.{entry_size, Fit}
use Rattle.geometry.specs.Page.{page_of}
use Rattle.packet.specs.Packet.{View, view_of}
use Rattle.rules.specs.declared.Entry.{Entry}
use Rattle.rules.specs.Chain.{Link, link}
use Rattle.rules.specs.Names.{key, entry_of, extended}
use Rattle.rules.specs.Tree.{Token, link_tokens}
use Rattle.rules.specs.Check.{followed}
use Rattle.directory.specs.declared.entries.Item.{Item}
use Rattle.directory.specs.declared.entries.Item.TheVariants.{Plain, Extended}
use Rattle.directory.specs.EntryPlaces.{IsItem}
use Rattle.entries.specs.declared.Slot.{Slot}
use Rattle.entries.specs.EntrySlots.{PlainKey, entry_key}
use Rattle.entries.specs.TokensAt.{TokensAt, IsEntry, StampAt, IsItemAt, PageRest}
use Rattle.entries.proofs.KeyLaws.{extended_key}
use Rattle.entries.proofs.SlotLaws.{entry_from_lem}
use Rattle.entries.proofs.TokenLaws.{entry_at, rest_entries, page_rest}

-- ---- its key
module _ (n : ℕ) (page : List ℕ) (at k : ℕ) (r : Item) (h : IsItem n page at r) where
  pub no_key : r ≡ Extended → PlainKey k → false ≡ eqb (entry_key (drop at page)) k
  no_key e p = sym (extended_key (entry_of n (drop at page)) k (subst (IsItem n page at) e h) p)

  pub its_key : (e : Entry) → r ≡ Plain e → (y : ℕ) → y ≡ key e.name e.extension → eqb y k ≡ eqb (entry_key (drop at page)) k
  its_key e q y z = ap (λ (x : ℕ). eqb x k) (z ∙ ap (λ (x : Entry). key x.name x.extension) (subst (IsItem n page at) q h).0.0)

-- ---- what the code reads at a place
module _ {g : Geometry} {image : List ℕ} (fit : Fit g image) (s : Slot) (under : s.at < s.count) (e : ℕ) (l : List ℕ) (size : e ≡ entry_size g) (page : l ≡ page_of g s.page image) where
  pub item_at : (r : Item) → IsItem g.width l (1 + s.skip + e * s.at) r → IsItemAt g (view_of g image) s r
  unfolding IsItemAt
  item_at (Plain x) h = (entry_at fit s under x (h.0.0 ∙ entry_from_lem g s e l image size page), h.1)
  item_at Extended h =
      let x = entry_of g.width (drop (1 + s.skip + e * s.at) l) in
      λ ts a. record { stamp = x; is_extended = h; at = entry_at fit s under x (entry_from_lem g s e l image size page) ts a }

module _ (g : Geometry) (v : View) (s : Slot) (r : Item) (h : IsItemAt g v s r) where
  pub plain_answer : (e : Entry) → r ≡ Plain e → IsEntry g v s e × (extended e ≡ false)
  unfolding IsItemAt
  plain_answer e q = subst (IsItemAt g v s) q h

  pub extended_answer : r ≡ Extended → (ts : List Token) → TokensAt g v s ts → StampAt g v s ts
  unfolding IsItemAt
  extended_answer q = subst (IsItemAt g v s) q h

-- ---- whether an entry follows in the page of a place
none_follow : (g : Geometry) (more : List Link) → followed (link_tokens g 0 more) ≡ false
unfolding followed
none_follow g [] = refl
none_follow g (link p b ∷ more) = refl

module _ {g : Geometry} {v : View} {s : Slot} {ts : List Token} (a : TokensAt g v s ts) where
  pub page_ends : s.at ≡ s.count → followed ts ≡ false
  page_ends e = go (rest_entries a) (page_rest a)
    where
      go : (es : List Entry) → PageRest s ts es (link_tokens g 0 a.more) → followed ts ≡ false
      go [] r = ap followed r.split ∙ none_follow g a.more
      go (x ∷ es) r = absurd (omega (arith, r.count_is))

  pub page_goes_on : (s.at ≡ s.count → ⊥) → followed ts ≡ true
  unfolding followed
  page_goes_on n = go (rest_entries a) (page_rest a)
    where
      go : (es : List Entry) → PageRest s ts es (link_tokens g 0 a.more) → followed ts ≡ true
      go [] r = absurd (n (omega (arith, r.count_is)))
      go (x ∷ es) r = ap followed r.split
