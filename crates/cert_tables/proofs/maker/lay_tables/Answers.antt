use Rattle.std.proofs.Common.{◌+◌, [], ◌∷◌, sym, ◌∙◌, ap, subst, length}
use Rattle.std.proofs.lemmas.List.{append-nil, length_push}
use Rattle.cert_tables.specs.Growth.{AreMarked}
use Rattle.cert_tables.proofs.GrowthLaid.{beginning, one_on, starts_more, grows_on}
use Rattle.cert_tables.proofs.maker.lay_tables.Goals as goal

pub loop-place-init : goal.loop-place-init
loop-place-init c =
    record {
      under_way = beginning c.args.making.now c.mark.new.marks c.args.nodes.now (subst (λ k. AreMarked k (0 ∷ []) c.mark.new.marks) (sym c.mark.auto.marks) (c.mark.ensures [] c.requires.clear));
      as_many = ap length c.new-starts.ensures;
      started = λ n s e. let wrong = rw c.new-starts.ensures at e in absurd (cc);
      grows = ([], sym (append-nil c.args.making.now.entries));
    }

pub loop-place-preserved : goal.loop-place-preserved
loop-place-preserved c =
    record {
      under_way = one_on c.args.making.now c.loop-place.making c.table_at.new.making c.loop-place.marks c.table_at.new.marks c.args.nodes.now c.loop-place.place c.loop-place.invariant.under_way c.in_ok-start.ensures.next;
      as_many = ap length c.in_ok-push.ensures.ok ∙ (length_push c.loop-place.starts c.in_ok-start.start ∙ ap (λ k. k + 1) c.loop-place.invariant.as_many);
      started =
          starts_more c.loop-place.making.entries c.table_at.new.making.entries c.args.nodes.now c.loop-place.place c.loop-place.starts c.push.new.self c.in_ok-start.start c.in_ok-start.ensures.grows
          c.loop-place.invariant.as_many c.in_ok-push.ensures.ok c.loop-place.invariant.started c.in_ok-start.ensures.start;
      grows = grows_on c.args.making.now.entries c.loop-place.making.entries c.table_at.new.making.entries c.loop-place.invariant.grows c.in_ok-start.ensures.grows;
    }
