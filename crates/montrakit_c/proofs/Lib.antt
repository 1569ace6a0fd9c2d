mod Contracts
