-- The walk over a directory's entries as the code goes: a place in the chain, what was met, and that whatever answers what is left answers all.
use Rattle.std.specs.Prelude.{Result, Ok, Err}
use mathlib.Core.Path.{◌≡◌, refl, ap, ap₂, sym, ◌∙◌, subst}
use mathlib.Core.Bool.{true, false, false≢true}
use mathlib.Core.List.{List, [], ◌∷◌, ◌++◌, append_assoc, append-nil}
use Prim.Native.Nat.{ℕ, suc, ◌+◌, ◌-◌, ◌≤◌, ◌<◌}
use native.Mathlib.Omega.{arith}
use lib.Dec.{ltb}
use lib.ListN.{length, take, length-append}
use lib.Seq.{take-append_seam}
use borrow.Author.Tests.{eq-eqb}
use Rattle.geometry.specs.declared.Geometry.{Geometry}
use Rattle.geometry.specs.Geometry.{control_size}
use Rattle.rules.specs.declared.Entry.{Entry}
use Rattle.rules.specs.declared.Totals.{Totals}
use Rattle.rules.specs.Result.{Res, ok}
use Rattle.rules.specs.PageSets.{hit, count, mem, Within}
use Rattle.rules.proofs.PageSetLaws.{same, other, hits, count_append}
use Rattle.rules.specs.Chain.{Views, Link}
use Rattle.rules.specs.Names.{key, extended}
use Rattle.rules.specs.Tree.{Token, entry, link_tokens}
use Rattle.rules.specs.TreeLaws.{page_tokens}
use Rattle.rules.specs.Control.{Parent}
use Rattle.owners.specs.Owned.{Represents}
use Rattle.owners.specs.OwnerLaws.{represents_within, taken, represents_taken}
use Rattle.rules.specs.Check.{Part, part_pages, followed, Judge, judge_entry, judge_sub}
use Rattle.rules.proofs.Soundness.{entry_sound, sub_sound}
use Rattle.directory.specs.declared.entries.Item.{Item}
use Rattle.directory.specs.declared.entries.Item.TheVariants.{Extended}
use Rattle.chain.specs.KnownChain.{ChainAt, KnownChain}
use Rattle.entries.specs.declared.Slot.{Slot}
use Rattle.entries.specs.EntrySlots.{PlainKey, chain_keys, advanced, HasEntries, CountsEntries}
use Rattle.entries.specs.TokensAt.{TokensAt, InDirectory, Begins, IsEntry, StampAt, IsItemAt, NextEntry, NoEntry}
use Rattle.entries.proofs.TokenLaws.{token_keys, token_keys_lem, keys_pages, keys_after, rest_entries, page_rest}
use Rattle.entries.proofs.KeyLaws.{plain_key, extended_key}
use Rattle.entries.proofs.Stepping.{ReadAhead, read_on, read_ahead}
use Rattle.entries.proofs.ItemLaws.{extended_answer, page_ends, page_goes_on}
use Rattle.refusals.specs.declared.Refusal.{Refusal}
use Rattle.refusals.specs.declared.Fault.TheVariants.{Extension}
use Rattle.rules.specs.Owners.{OwnerRecord}
use Rattle.walk.specs.Walks.{Good, Answers, plus_part, own_part, Met, EntryWalked}
use Rattle.walk.proofs.Steps.{represents_part, good_part, Rest, rest_end, rest_page, rest_pages, rest_stamp, rest_loose, rest_refused, rest_entry}

-- an extended entry's key is not that of a plain one
not_met : (e : Entry) (k : ℕ) → extended e ≡ true → PlainKey k → hit k (key e.name e.extension) ≡ 0
not_met e k x p = elim (hits k (key e.name e.extension)) [
  | same q i ↦ absurd (false≢true (sym (extended_key e k x p) ∙ eq-eqb (key e.name e.extension) k (sym q)))
  | other q i ↦ i
]

-- ---- what is left
module _ (g : Geometry) (vs : Views) (levels name start : ℕ) where
  abbrev pub here : Parent
  here = record { name = name; start = start }

  abbrev pub LeftOver : List ℕ → ℕ → List ℕ → List Token → Totals → List OwnerRecord → Result Totals Refusal → List OwnerRecord → Type 0
  LeftOver = Rest g vs (judge_sub g vs (suc g.pages) levels) here

  -- all entries of a chain, whose walk begins with these totals, this table and these pages claimed
  abbrev pub Whole : Totals → List OwnerRecord → List ℕ → List Link → Result Totals Refusal → List OwnerRecord → Type 0
  Whole c t claimed ls = LeftOver claimed start [] (link_tokens g (control_size g) ls) c t

  -- after m entries of the chain ls₀
  pub record Left (c₀ : Totals) (t₀ : List OwnerRecord) (claimed₀ : List ℕ) (ls₀ : List Link) (t : List OwnerRecord) (c : Totals) (s : Slot) (m : ℕ) : Type 0 where
    pub chain : ChainAt g vs.pages start ls₀
    pub claimed : List ℕ
    pub seen : List ℕ
    pub before : List ℕ
    pub ts : List Token
    pub represents : Represents t claimed
    pub good_totals : Good g c t
    pub ahead : TokensAt g vs.pages s ts
    pub keys_are : chain_keys g (control_size g) ls₀ ≡ before ++ token_keys ts
    pub met : length before ≡ m
    pub same : (k : ℕ) → PlainKey k → count k seen ≡ count k before
    pub finish : (r : Result Totals Refusal) (u : List OwnerRecord) → LeftOver claimed s.page seen ts c t r u → Whole c₀ t₀ claimed₀ ls₀ r u

same_left : {g : Geometry} {vs : Views} {levels name start : ℕ} {c₀ : Totals} {t₀ : List OwnerRecord} {claimed₀ : List ℕ} {ls₀ : List Link} {t t' : List OwnerRecord} {c c' : Totals} {s s' : Slot} {m m' : ℕ}
    → t ≡ t' → c ≡ c' → s ≡ s' → m ≡ m'
    → Left g vs levels name start c₀ t₀ claimed₀ ls₀ t' c' s' m' → Left g vs levels name start c₀ t₀ claimed₀ ls₀ t c s m
same_left p q r h L = rw (p, q, r, h) L

-- the first page
pub left_first : {g : Geometry} {vs : Views} (levels name start : ℕ) {c : Totals} {t : List OwnerRecord} {claimed : List ℕ} {ls : List Link} {s : Slot} (n : ℕ)
    → Begins g vs.pages start s → ChainAt g vs.pages start ls → 0 ≡ n → Represents t claimed → Good g c t → Left g vs levels name start c t claimed ls t c s n
left_first {g} {vs} levels name start {c} {t} {claimed} {ls} {s} n b d z r h =
    let p = b ls d in
    record {
      chain = d;
      claimed = claimed;
      seen = [];
      before = [];
      ts = p.later;
      represents = r;
      good_totals = h;
      ahead = p.ahead;
      keys_are = sym (token_keys_lem g (control_size g) ls) ∙ ap token_keys p.split;
      met = z;
      same = λ k p. refl;
      finish = λ x u a. subst (λ (y : List Token). LeftOver g vs levels name start claimed start [] y c t x u) (sym p.split)
          (rest_page g vs (judge_sub g vs (suc g.pages) levels) (here g vs levels name start) claimed start [] s.page p.later c t x u a);
    }

module _ {g : Geometry} {vs : Views} {levels name start : ℕ} {c₀ : Totals} {t₀ : List OwnerRecord} {claimed₀ : List ℕ} {ls₀ : List Link} {t : List OwnerRecord} {c : Totals} {s : Slot} {m : ℕ}
    (L : Left g vs levels name start c₀ t₀ claimed₀ ls₀ t c s m) where
  open L use {chain, claimed, seen, before, ts, represents, good_totals, ahead, keys_are, met, same, finish}

  abbrev sub : Judge
  sub = judge_sub g vs (suc g.pages) levels

  abbrev dir : Parent
  dir = here g vs levels name start

  pub left_in : InDirectory g vs.pages s
  left_in = record { ts = ts; ahead = ahead }

  -- the entries met are the chain's first
  all_keys : length (chain_keys g (control_size g) ls₀) ≡ m + length (token_keys ts)
  all_keys = ap length keys_are ∙ length-append before (token_keys ts) ∙ ap (λ (n : ℕ). n + length (token_keys ts)) met

  pub left_known : HasEntries g vs.pages start m
  left_known = record { links = ls₀; chain = chain; enough = omega (arith, all_keys) }

  met_names : (k : ℕ) → PlainKey k → Met g vs.pages start m k seen
  met_names k p =
      (ls₀, chain, omega (arith, all_keys), ap (ltb 0) (same k p) ∙ ap (mem k) (sym (take-append_seam before (token_keys ts))) ∙ ap₂ (λ (i : ℕ) (l : List ℕ). mem k (take i l)) met (sym keys_are))

  -- no entry is left
  pub left_done : ((ts : List Token) → TokensAt g vs.pages s ts → NoEntry ts) → Whole g vs levels name start c₀ t₀ claimed₀ ls₀ (Ok c) t
  left_done n =
      let o = n ts ahead in
      let all : page_tokens o.pages ++ [] ≡ ts = append-nil (page_tokens o.pages) ∙ sym o.are in
      finish (Ok c) t (subst (λ (x : List Token). LeftOver g vs levels name start claimed s.page seen x c t (Ok c) t) all
      (rest_pages g vs sub dir claimed s.page seen o.pages [] c t (Ok c) t
      (rest_end g vs sub dir claimed _ seen c t)))

  -- where there is a next entry, the chain has more
  pub one_left : {at : Slot} → NextEntry g vs.pages s at → m < length (chain_keys g (control_size g) ls₀)
  one_left n =
      let a = n.ahead ts ahead in
      let r = page_rest a.ahead in
      omega (
        arith,
        all_keys,
        ap (λ (x : List Token). length (token_keys x)) a.split,
        ap length (keys_pages a.pages a.after),
        ap (λ (x : List Token). length (token_keys x)) r.split,
        (keys_after (rest_entries a.ahead) (link_tokens g 0 a.ahead.more)).0,
        r.count_is,
        n.under,
      )

  -- the next entry, of either kind
  module _ {at : Slot} {e : Entry} (read : ReadAhead g vs.pages s ts at e) where
    keys_read : token_keys ts ≡ key e.name e.extension ∷ token_keys read.later
    keys_read = ap token_keys read.split ∙ keys_pages read.pages (entry e ∷ read.later)

    on_tokens : (r : Result Totals Refusal) (u : List OwnerRecord) → LeftOver g vs levels name start claimed at.page seen (entry e ∷ read.later) c t r u → Whole g vs levels name start c₀ t₀ claimed₀ ls₀ r u
    on_tokens r u z =
        let later = entry e ∷ read.later in
        finish r u (subst (λ (x : List Token). LeftOver g vs levels name start claimed s.page seen x c t r u) (sym read.split)
        (rest_pages g vs sub dir claimed s.page seen read.pages later c t r u
        (subst (λ (p : ℕ). LeftOver g vs levels name start claimed p seen later c t r u) read.page_is z)))

    -- past it
    abbrev key_here : ℕ
    key_here = key e.name e.extension

    keys_past : chain_keys g (control_size g) ls₀ ≡ (before ++ (key_here ∷ [])) ++ token_keys read.later
    keys_past = keys_are ∙ ap (λ (x : List ℕ). before ++ x) keys_read ∙ sym (append_assoc before (key_here ∷ []) (token_keys read.later))

    met_past : length (before ++ (key_here ∷ [])) ≡ m + 1
    met_past = omega (arith, met, length-append before (key_here ∷ []))

  -- a stamp
  module _ {at s' : Slot} (n : NextEntry g vs.pages s at) (r : Item) (h : IsItemAt g vs.pages at r) (x : r ≡ Extended) (past : s' ≡ advanced at) where
    abbrev stamp_here : StampAt g vs.pages at (n.ahead ts ahead).after
    stamp_here = extended_answer g vs.pages at r h x (n.ahead ts ahead).after (n.ahead ts ahead).ahead

    abbrev stamp_read : ReadAhead g vs.pages s ts at stamp_here.stamp
    stamp_read = read_on (n.ahead ts ahead) stamp_here.at

    -- that an entry follows in its page
    stamped : followed stamp_read.later ≡ true → Left g vs levels name start c₀ t₀ claimed₀ ls₀ t c (advanced at) (m + 1)
    stamped f =
        let k = key_here stamp_read in
        record {
          chain = chain;
          claimed = claimed;
          seen = seen;
          before = before ++ (k ∷ []);
          ts = stamp_read.later;
          represents = represents;
          good_totals = good_totals;
          ahead = stamp_read.ahead;
          keys_are = keys_past stamp_read;
          met = met_past stamp_read;
          same = λ y p. omega (arith, same y p, count_append y before (k ∷ []), not_met stamp_here.stamp y stamp_here.is_extended p);
          finish = λ r u z. on_tokens stamp_read r u (rest_stamp g vs sub dir claimed at.page seen stamp_here.stamp stamp_here.is_extended stamp_read.later c t f r u z);
        }

    pub left_stamp : (k : ℕ) → (s'.at ≡ s'.count → ⊥) → m + 1 ≡ k → Left g vs levels name start c₀ t₀ claimed₀ ls₀ t c s' k
    left_stamp k f j = same_left refl refl past (sym j) (stamped (page_goes_on stamp_read.ahead (λ q. f (ap (λ (x : Slot). x.at) past ∙ q ∙ sym (ap (λ (x : Slot). x.count) past)))))

    -- that none follows
    pub left_loose : (u : List OwnerRecord) → s'.at ≡ s'.count → Whole g vs levels name start c₀ t₀ claimed₀ ls₀ (Err (record { 0 = Extension; 1 = at.page })) u
    left_loose u f = on_tokens stamp_read (Err (record { 0 = Extension; 1 = at.page })) u
        (rest_loose g vs sub dir claimed at.page seen stamp_here.stamp stamp_here.is_extended stamp_read.later c t
        (page_ends stamp_read.ahead (sym (ap (λ (x : Slot). x.at) past) ∙ f ∙ ap (λ (x : Slot). x.count) past)) u)

  -- a plain entry
  module _ {at : Slot} {e : Entry} (n : NextEntry g vs.pages s at) (i : IsEntry g vs.pages at e) (plain : extended e ≡ false) where
    abbrev read : ReadAhead g vs.pages s ts at e
    read = read_ahead n i ts ahead

    module _ (r : Result Totals Refusal) (u : List OwnerRecord) (z : EntryWalked g vs levels name start at.page m e c t r u) where
      abbrev rule : Res Part
      rule = judge_entry g vs (suc g.pages) sub dir claimed at.page seen e

      answered : (x : Result Totals Refusal) → r ≡ x → Answers (plus_part c) (own_part (c.files + c.directories) t) rule x u
      answered x o = subst (λ (x : Result Totals Refusal). Answers (plus_part c) (own_part (c.files + c.directories) t) rule x u) o (z claimed seen represents (met_names (key_here read) (plain_key e (key_here read) plain refl)))

      pub left_refused : (z : Refusal) → r ≡ Err z → Whole g vs levels name start c₀ t₀ claimed₀ ls₀ (Err z) u
      left_refused z o =
          on_tokens read (Err z) u (rest_refused g vs sub dir claimed at.page seen e plain read.later c t z u (answered (Err z) o))

      module _ (l : length t ≡ g.pages) where
        entered : (x : Part) → rule ≡ ok x → Left g vs levels name start c₀ t₀ claimed₀ ls₀ (own_part (c.files + c.directories) t x) (plus_part c x) (advanced at) (m + 1)
        entered x j =
            let k = key_here read in
            let f : Within g.pages claimed = subst (λ (n : ℕ). Within n claimed) l (represents_within t claimed represents) in
            let p = entry_sound g vs sub (sub_sound g vs levels) dir claimed at.page seen e x f j in
            record {
              chain = chain;
              claimed = part_pages x ++ claimed;
              seen = k ∷ seen;
              before = before ++ (k ∷ []);
              ts = read.later;
              represents = represents_part (c.files + c.directories) x t claimed represents (λ y. rw l (p.clear y));
              good_totals = good_part g c x t claimed good_totals represents l p;
              ahead = read.ahead;
              keys_are = keys_past read;
              met = met_past read;
              same = λ y p. omega (arith, same y p, count_append y before (k ∷ []));
              finish = λ r u z. on_tokens read r u (rest_entry g vs sub dir claimed at.page seen e plain read.later c t x j r u z);
            }

        -- past it, with one entry less to go
        pub left_entry : (d : Totals) → r ≡ Ok d → (s' : Slot) (n : ℕ) → s' ≡ advanced at → m + 1 ≡ n → Left g vs levels name start c₀ t₀ claimed₀ ls₀ u d s' n
        left_entry d o s' n y h = let a = answered (Ok d) o in same_left a.3 a.2 y (sym h) (entered a.0 a.1)

-- for the code's own needs: one list of claimed pages and one chain
pub witness : {g : Geometry} {vs : Views} {levels name start : ℕ} {c₀ : Totals} {t₀ t : List OwnerRecord} {c : Totals} {s : Slot} {m : ℕ} (k : KnownChain g vs.pages start)
    → ((claimed : List ℕ) (ls : List Link) → Represents t₀ claimed → ChainAt g vs.pages start ls → Left g vs levels name start c₀ t₀ claimed ls t c s m)
    → Left g vs levels name start c₀ t₀ (taken t₀) k.links t c s m
witness {t₀ = t₀} k f = f (taken t₀) k.links (represents_taken t₀) k.chain

-- where there is a next entry, one of those to be counted is to go
pub some_to_go : {g : Geometry} {vs : Views} {levels name start : ℕ} {c₀ : Totals} {t₀ t : List OwnerRecord} {c : Totals} {s : Slot} (count left : ℕ) → CountsEntries g vs.pages start count → (k : KnownChain g vs.pages start)
    → ((claimed : List ℕ) (ls : List Link) → Represents t₀ claimed → ChainAt g vs.pages start ls → Left g vs levels name start c₀ t₀ claimed ls t c s (count - left))
    → {at : Slot} → NextEntry g vs.pages s at → left ≤ count → 0 < left
some_to_go count left n k f a h = omega (arith, one_left (witness k f) a, n k.links k.chain)
