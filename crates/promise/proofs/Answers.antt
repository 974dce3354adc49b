-- One answer each: by the laws of the calls' results, each in its crate. Results whose fields are equal are equal. Assumes nothing.
use mathlib.Core.Path.{◌≡◌}
use Rattle.accept.proofs.Contracts.{one, check-one}
use Rattle.find.proofs.Contracts.{search-one, search-input-one}
use Rattle.view.proofs.Contracts.{view-one, find-in-one, search-view-one}
use Rattle.edit.specs.Edits.{Outcome}
use Rattle.add.proofs.Contracts.{add-one}
use Rattle.change.proofs.Contracts.{remove-one, reinstate-one}
use Rattle.taffrail.specs.Calls.{window_from}
use Rattle.taffrail.proofs.Contracts as taffrail
use Rattle.promise.specs.Answers.{SearchResult, CEditResult, OneAnswer}

searched : {a b : SearchResult} → (a.answer ≡ b.answer) × (a.list ≡ b.list) → a ≡ b
searched e = λ i. record { answer = e.0 i; list = e.1 i }

edited : {a b : Outcome} → (a.answer ≡ b.answer) × (a.map ≡ b.map) × (a.journal ≡ b.journal) → a ≡ b
edited e = λ i. record { answer = e.0 i; map = e.1 i; journal = e.2 i }

c-edited : {a b : CEditResult}
    → (a.number ≡ b.number) × (a.place ≡ b.place) × (a.before ≡ b.before) × (a.slot ≡ b.slot) × (a.new_length ≡ b.new_length) × (a.map ≡ b.map) × (a.journal ≡ b.journal)
    → a ≡ b
c-edited e =
    λ i. record {
      number = e.0 i;
      place = e.1 i;
      before = e.2 i;
      slot = e.3 i;
      new_length = e.4 i;
      map = e.5 i;
      journal = e.6 i;
    }

pub one_answer : OneAnswer
one_answer =
    record {
      check = λ m used a b p q. check-one m used p q;
      check-number = λ v a b. one;
      check-place = λ v a b. one;
      search = λ m used w l a b p q. searched (search-one m used w l p q);
      search-input = λ i l a b p q. searched (search-input-one i l p q);
      search-number = λ x a b. one;
      search-place = λ x a b. one;
      search-count = λ x a b. one;
      search-blocks = λ x a b. one;
      checked-length = λ m used a b. one;
      view = λ bytes used a b p q. view-one bytes used p q;
      find-in = λ v w l a b p q. searched (find-in-one v w l p q);
      search-view = λ m used w l a b p q. searched (search-view-one m used w l p q);
      add = λ m used j e o a b p q. edited (add-one m used j e o p q);
      remove = λ m used j e s a b p q. edited (remove-one m used j e s p q);
      reinstate = λ m used j e s a b p q. edited (reinstate-one m used j e s p q);
      edit-number = λ x a b. one;
      edit-place = λ x a b. one;
      edit-before = λ x a b. one;
      edit-slot = λ x a b. one;
      edit-length = λ x a b. one;
      taffrail-check = λ m used a b p q. let e = taffrail.check-one m used p q in λ i. record { number = e.0 i; place = e.1 i };
      taffrail-search = λ m used left bottom right top l a b p q.
          let e = taffrail.search-one m used (window_from left bottom right top) l p q in
          λ i. record {
            number = e.0 i;
            place = e.1 i;
            count = e.2 i;
            blocks = e.3 i;
            list = e.4 i;
          };
      taffrail-add = λ m used j e o a b p q. c-edited (taffrail.add-one m used j e o p q);
      taffrail-remove = λ m used j e s a b p q. c-edited (taffrail.remove-one m used j e s p q);
      taffrail-reinstate = λ m used j e s a b p q. c-edited (taffrail.reinstate-one m used j e s p q);
    }
