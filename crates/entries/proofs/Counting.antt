-- The entries of a directory counted page by page: those of the pages before and those to come are all.
use mathlib.Core.Path.{◌≡◌, ap, ◌∙◌}
use mathlib.Core.List.{List}
use Prim.Native.Nat.{ℕ, ◌+◌, ◌<◌}
use native.Mathlib.Omega.{arith}
use lib.ListN.{length}
use Rattle.geometry.specs.declared.Geometry.{Geometry}
use Rattle.geometry.specs.Geometry.{control_size, Fit}
use Rattle.packet.specs.Packet.{View, view_of}
use Rattle.rules.specs.declared.Entry.{Entry}
use Rattle.rules.specs.Chain.{Link}
use Rattle.rules.specs.Tree.{Token, link_tokens}
use Rattle.chain.specs.KnownChain.{ChainAt}
use Rattle.entries.specs.declared.Slot.{Slot}
use Rattle.entries.specs.EntrySlots.{chain_keys}
use Rattle.entries.specs.TokensAt.{TokensAt, PageAt, PageRest, PageAhead, LastPage}
use Rattle.entries.proofs.TokenLaws.{token_keys, token_keys_lem, keys_after, keys_few, page_rest}

-- at the first entry of a page, n entries before it
pub record Counting (g : Geometry) (v : View) (ls : List Link) (s : Slot) (n : ℕ) : Type 0 where
  pub ts : List Token
  pub ahead : TokensAt g v s ts
  pub at_start : s.at ≡ 0
  pub all : n + length (token_keys ts) ≡ length (chain_keys g (control_size g) ls)

module _ {g : Geometry} {v : View} {ls : List Link} {s : Slot} where
  pub count_first : PageAt g v (control_size g) s (link_tokens g (control_size g) ls) → Counting g v ls s 0
  count_first p = record {
    ts = p.later;
    ahead = p.ahead;
    at_start = p.at_start;
    all = omega (arith, ap (λ (x : List Token). length (token_keys x)) p.split, ap length (token_keys_lem g (control_size g) ls));
  }

  module _ {n : ℕ} (C : Counting g v ls s n) where
    keys_of : {es : List Entry} {after : List Token} → PageRest s C.ts es after → length (token_keys C.ts) ≡ s.count + length (token_keys after)
    keys_of {es} {after} r = ap (λ (y : List Token). length (token_keys y)) r.split ∙ (keys_after es after).0 ∙ omega (arith, r.count_is, C.at_start)

    pub count_done : LastPage s C.ts → n + s.count ≡ length (chain_keys g (control_size g) ls)
    count_done x = omega (arith, C.all, keys_of x.rest)

    pub count_on : {s' : Slot} → PageAhead g v s C.ts s' → Counting g v ls s' (n + s.count)
    count_on p = record {
      ts = p.page.later;
      ahead = p.page.ahead;
      at_start = p.page.at_start;
      all = omega (arith, C.all, keys_of p.rest, ap (λ (y : List Token). length (token_keys y)) p.page.split);
    }

-- the count fits
pub count_few : {g : Geometry} {image : List ℕ} → Fit g image → {start : ℕ} {ls : List Link} → ChainAt g (view_of g image) start ls → {s : Slot} {n : ℕ} → Counting g (view_of g image) ls s n
    → n + s.count < 16777216
count_few {g} fit {ls = ls} d C = omega (arith, C.all, keys_of C (page_rest C.ahead), keys_few fit (control_size g) ls d.packets, d.few, fit.valid.few)
