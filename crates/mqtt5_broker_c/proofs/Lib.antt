pub mod BrokerPtrValues
