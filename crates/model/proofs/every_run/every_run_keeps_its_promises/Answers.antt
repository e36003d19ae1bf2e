-- The promises hold by the kind's laws on classes and reads.
use Rattle.model.proofs.Run.Going.{progress}
use Rattle.model.proofs.Run.Promised.{told, serial, questions, single}
use Rattle.model.proofs.Run.Refusing.{refusals}
use Rattle.model.proofs.Run.Invariant.{lawful_kind}
use Rattle.model.proofs.Run.Victims.{right_victim}
use Rattle.model.proofs.every_run.every_run_keeps_its_promises.Goals as goal

pub returns : goal.returns
returns g c =
    let lawful = lawful_kind g.K.Kind.classed g.K.Kind.acts g.met.K.Kind.class_stays g.met.K.Kind.read_stays in
    record {
      told = λ n l b _. told _ (lawful n l b);
      serial = λ n l b _. serial _ (lawful n l b);
      victim = λ n l b order. right_victim _ (lawful n l b) order;
      progress = λ n l b _. progress _ (lawful n l b);
      questions = λ n l b _. questions _ (lawful n l b);
      refusals = λ n l b _. refusals _;
      single = λ n l b _. single _;
    }
