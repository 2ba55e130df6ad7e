-- What an opening needs: which files have the right heads, that a repair leaves the meaning, and the last log number.
use Rattle.std.proofs.Common.{◌≡◌, ◌≢◌, ℕ, ◌+◌, ◌^◌, ◌<◌, ◌≤◌, List, [], ◌∷◌, length, take, arith, ap, sym, ◌∙◌, subst, slice_index, inl, inr}
use Rattle.std.proofs.lemmas.Bool.{cases_lt}
use Rattle.std.specs.List.{AllByRecursion}
use Rattle.rb_base.specs.Blocks.{block_of}
use Rattle.rb_base.specs.Fields.{number_at}
use Rattle.rb_base.specs.Groups.{Patch, IsGroup}
use Rattle.rb_base.specs.declared.sizes.TheConstants.{UNIT}
use Rattle.rb_layout.specs.Regions.{block_count, file_length, log_offset, shape_of}
use Rattle.rb_layout.specs.declared.layout.Head.{Head}
use Rattle.rb_layout.specs.declared.layout.Layout.{Layout}
use Rattle.rb_cache.proofs.Parts.{gate_behind, home_behind}
use Rattle.rb_control.specs.Heads.{head_of, IsHead}
use Rattle.rb_log.specs.Slots.{SameOutside, SameSlots}
use Rattle.law_redo.specs.Rolled.{rolled}
use Rattle.law_redo.proofs.Heads.{rolled_head}
use Rattle.law_redo.proofs.Rolling.{no_lower, rolled_high}
use Rattle.rb_log.specs.GroupSlots.{GroupsAre}
use Rattle.rb_twin.specs.Twins.{kept, twin_gate, IsTwin}
use Rattle.rb_twin.specs.TwinLaws.{kept_shut}
use Rattle.rb_log.specs.GroupLaws.{same_group_log}
use Rattle.rb_store.specs.Meaning.{AreHeaded, KeepsHeads, Means, place_of}
use Rattle.rb_store.proofs.Between.{front_head, same_identity}

-- the groups of a log are groups
pub logged_groups : (l : Layout) (head : Head) (file : List ℕ) (at : ℕ) (groups : List (List Patch)) → GroupsAre l head file at groups → AllByRecursion IsGroup groups
logged_groups l head file at [] log = tt
logged_groups l head file at (g ∷ groups) log = (log.1.body.spelled.valid, logged_groups l head file (at + 1) groups log.2)

module _ (l : Layout) (file : List ℕ) (b : List (List ℕ)) (n : ℕ) (m : Means l file b n) (fits : n < 2 ^ 62) (units : (which : ℕ) → which < block_count l → length (kept l file which) ≡ UNIT) where
  valid : AllByRecursion IsGroup m.groups
  valid = logged_groups l m.head file 0 m.groups m.log

  same_place : (which : ℕ) → which < block_count l → place_of (block_of b which) ≡ place_of (kept l file which)
  same_place which lt = ap place_of (m.made which lt) ∙ (rolled_head which m.head.number m.groups (kept l file which) (units which lt) valid).head

  few : m.head.number + length m.groups ≤ 2 ^ 63
  few = let last = m.last in omega (arith, last, fits)

  -- it is the same test as that of the blocks that the file means
  pub heads_of_kept : KeepsHeads l file n → AreHeaded (shape_of l) b n
  heads_of_kept h which lt = record {
    kind = ap (λ (p : List ℕ). slice_index p 0) (same_place which lt) ∙ (h which lt).kind;
    own = ap (λ (p : List ℕ). number_at p 4 4) (same_place which lt) ∙ (h which lt).own;
    low =
        let is = ap (λ (x : List ℕ). number_at x 0 8) (m.made which lt) in
        let last = m.last in
        let high = rolled_high which m.head.number m.groups (kept l file which) n few (omega (arith, last)) (h which lt).low in omega (arith, is, high);
  }

  pub kept_heads : AreHeaded (shape_of l) b n → KeepsHeads l file n
  kept_heads h which lt = record {
    kind = sym (ap (λ (p : List ℕ). slice_index p 0) (same_place which lt)) ∙ (h which lt).kind;
    own = sym (ap (λ (p : List ℕ). number_at p 4 4) (same_place which lt)) ∙ (h which lt).own;
    low =
        let is = ap (λ (x : List ℕ). number_at x 0 8) (m.made which lt) in
        let low = (h which lt).low in
        let up = no_lower which m.head.number m.groups (kept l file which) few in omega (arith, is, low, up);
  }

-- A file with the same front and the same log slots that keeps the same of each block means the same.
pub means_kept : (l : Layout) (file c : List ℕ) (b : List (List ℕ)) (n : ℕ) → length c ≡ file_length l → take (log_offset 0) c ≡ take (log_offset 0) file → SameSlots l.log file c
    → IsTwin l c → ((which : ℕ) → which < block_count l → kept l c which ≡ kept l file which) → (m : Means l file b n) → Means l c b n
means_kept l file c b n whole front slots twin keeps m = record {
  identity = same_identity l c file whole front m.identity;
  head = m.head;
  head_is = m.head_is ∙ sym (front_head c file (whole ∙ sym m.identity.whole) front);
  in_log = m.in_log;
  first = m.first;
  groups = m.groups;
  log = same_group_log l m.head file c m.groups m.in_log slots m.log;
  twin = twin;
  last = m.last;
  whole = m.whole;
  made = λ which lt. m.made which lt ∙ ap (rolled m.head.number m.groups which) (sym (keeps which lt));
}

-- A file that differs in the log alone, and there has the same groups, means the same.
pub means_logged : (l : Layout) (file c : List ℕ) (b : List (List ℕ)) (n : ℕ) → SameOutside l.log file c → (m : Means l file b n) → twin_gate l file ≢ 1
    → GroupsAre l m.head c 0 m.groups → Means l c b n
means_logged l file c b n same m shut log = record {
  identity = same_identity l c file (same.long ∙ m.identity.whole) same.before m.identity;
  head = m.head;
  head_is = m.head_is ∙ sym (front_head c file same.long same.before);
  in_log = m.in_log;
  first = m.first;
  groups = m.groups;
  log = log;
  twin = λ gate. absurd (shut_c gate);
  last = m.last;
  whole = m.whole;
  made = λ which lt. m.made which lt ∙ ap (rolled m.head.number m.groups which)
      (kept_shut l file which shut ∙ sym (home_behind l c file which same.behind) ∙ sym (kept_shut l c which shut_c));
}
  where
    shut_c : twin_gate l c ≢ 1
    shut_c gate = shut (sym (gate_behind l c file same.behind) ∙ gate)

-- what is no head, in a file that means something, has too great a number
pub too_great : (l : Layout) (file : List ℕ) (b : List (List ℕ)) (n : ℕ) → Means l file b n → (IsHead l (head_of file) → ⊥) → 2 ^ 61 < (head_of file).number
too_great l file b n m none = elim (cases_lt (2 ^ 61) (head_of file).number) [
  | inl great ↦ great
  | inr le ↦
      let same = ap (λ (h : Head). h.number) m.head_is in
      absurd (none (subst (IsHead l) m.head_is (record { slot = m.in_log; first = m.first; last = omega (arith, le, same) })))
]
