-- The entry that a transaction uses, by the bytes of a block and by its home.
use Rattle.std.proofs.Common.{◌≡◌, ℕ, ◌<◌, ◌^◌, List, inl, inr, ap, sym, subst, ◌∙◌, arith}
use Rattle.std.proofs.lemmas.List.{get_or-map}
use Rattle.rb_itl.specs.declared.slots.TheConstants.{ENTRIES}
use Rattle.rb_base.specs.Blocks.{block_of, table_blocks}
use Rattle.rb_base.specs.declared.ids.Xid.{Xid}
use Rattle.rb_base.specs.declared.shape.Shape.{Shape}
use Rattle.rb_heap.proofs.Reading.{entries_counted}
use Rattle.rb_heap.specs.Choices.{IsOwnEntry, IsTold, HasNoChoice, IsEntryChoice, IsFreeChoice, IsOwnChoice, IsToldChoice}
use Rattle.rb_heap.specs.Cleaning.{cleaned_entry, cleaned_home}
use Rattle.rb_heap.specs.Homes.{home_entry, home_of}
use Rattle.rb_itl.specs.Entries.{free_entry}
use Rattle.rb_itl.specs.declared.slots.Entry.{Entry}
use Rattle.rb_txntable.specs.declared.looks.Look.{Look}
use Rattle.rb_write.proofs.Looks.{still_open}
use Rattle.rb_write.specs.Asks.{AreYoung}

-- two blocks of entries that are the same
module _ (f g : ℕ → Entry) (same : (j : ℕ) → j < ENTRIES → f j ≡ g j) (x : Xid) where
  own_agrees : (i : ℕ) → i < ENTRIES → IsOwnChoice f x i → IsOwnChoice g x i
  own_agrees i lt own = record { own = rw (sym (same i lt)) own.own; lower = λ j less mine. own.lower j less (rw (same j (omega arith)) mine) }

  no_agrees : (Is : Entry → Type 0) → ((j : ℕ) → j < ENTRIES → ¬ Is (f j)) → (j : ℕ) → j < ENTRIES → ¬ Is (g j)
  no_agrees Is none j lt is = none j lt (subst Is (sym (same j lt)) is)

  free_agrees : (i : ℕ) → i < ENTRIES → IsFreeChoice f x i → IsFreeChoice g x i
  free_agrees i lt free = record {
    no_own = no_agrees (IsOwnEntry x) free.no_own;
    free = rw (sym (same i lt)) free.free;
    lower = λ j less is. free.lower j less (rw (same j (omega arith)) is);
  }

  told_agrees : (i : ℕ) → i < ENTRIES → IsToldChoice f x i → IsToldChoice g x i
  told_agrees i lt told = record {
    no_own = no_agrees (IsOwnEntry x) told.no_own;
    no_free = no_agrees (λ (e : Entry). e.kind ≡ 0) told.no_free;
    told = subst IsTold (same i lt) told.told;
    least = λ j few is. rw (sym (same i lt), sym (same j few)) (told.least j few (subst IsTold (sym (same j few)) is));
    lower = λ j less is. let few : j < ENTRIES = omega arith in rw (sym (same i lt), sym (same j few)) (told.lower j less (subst IsTold (sym (same j few)) is));
  }

  pub choice_agrees : (i : ℕ) → IsEntryChoice f x i → IsEntryChoice g x i
  choice_agrees i choice = record {
    within = choice.within;
    way = elim choice.way [ inl own ↦ inl (own_agrees i choice.within own) | inr rest ↦ inr (elim rest [ inl free ↦ inl (free_agrees i choice.within free) | inr told ↦ inr (told_agrees i choice.within told) ]) ];
  }

  pub none_agrees : HasNoChoice f x → HasNoChoice g x
  none_agrees none j lt = rw (sym (same j lt)) (none j lt)

-- there is none where one is chosen
pub chosen_not_none : (f : ℕ → Entry) (x : Xid) (i : ℕ) → IsEntryChoice f x i → HasNoChoice f x → ⊥
chosen_not_none f x i choice none =
    let open_kind : (f i).kind ≡ 1 = (none i choice.within).0 in
    elim choice.way [
      | inl own ↦ (none i choice.within).1 own.own.1
      | inr rest ↦ elim rest [
        | inl free ↦ omega (arith, free.free, open_kind)
        | inr told ↦ told.told.1 open_kind
      ]
    ]

-- an entry of a cleaned block that is Open has a short chain
pub chain_short : (shape : Shape) (blocks : List (List ℕ)) (look : Xid → Look) (b i : ℕ) → AreYoung shape blocks → b < table_blocks shape → i < ENTRIES
    → (home_entry (cleaned_home look (home_of (block_of blocks b))) i).kind ≡ 1 → (home_entry (cleaned_home look (home_of (block_of blocks b))) i).length < 2 ^ 31
chain_short shape blocks look b i young lt few is =
    let home = home_of (block_of blocks b) in
    let entry = home_entry home i in
    let read : home_entry (cleaned_home look home) i ≡ cleaned_entry look entry = get_or-map (cleaned_entry look) home.entries i free_entry free_entry (omega (arith, few, entries_counted (block_of blocks b))) in
    let same : cleaned_entry look entry ≡ entry = still_open look entry (ap (λ (e : Entry). e.kind) (sym read) ∙ is) in
    let young_entry = young.entries b i lt few (ap (λ (e : Entry). e.kind) (sym (read ∙ same)) ∙ is) in
    rw (read, same) young_entry.chain
